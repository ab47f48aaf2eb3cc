-- The calls up to the last sync and those from there on.
use Rattle.memory_disk.proofs.Common.{Option, List, ℕ, sym, subst, take, IsLeft, history_of}
use Rattle.memory_disk.proofs.{CallsLemmas.held_take, LeftCalls.held_rest, LeftCalls.left_parts}
use Rattle.memory_disk.proofs.image.file_image.Goals as goal

pub content_of-requires : goal.content_of-requires
content_of-requires c = held_take _ c.args.calls.now _ c.requires

pub leave_calls-requires-clause-held : goal.leave_calls-requires-clause-held
leave_calls-requires-clause-held c = held_rest _ c.args.calls.now _ c.requires

pub returns-clause-left : goal.returns-clause-left
returns-clause-left c =
    let row = c.args.row.now in
    let calls = c.args.calls.now in
    let from = c.pending_from-from.result in
    let draws = c.args.draws.now in
    let first = history_of row (take from calls) in
    left_parts row calls from draws.choice c.args.file draws.state _ _
    (c.in_ok-left.ensures.left first draws.state
    (subst (λ (x : Option (List ℕ)). IsLeft draws.choice c.args.file first draws.state x draws.state)
    (sym c.in_ok-synced.ensures) (c.pending_from-from.ensures.settled row draws.choice draws.state)))
