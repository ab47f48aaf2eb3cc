-- At the place of the id, or in the place where it goes.
use Rattle.std.proofs.Common.{◌∙◌, ⊎_elim, Some, IsSome, ap, subst, ℕ, Option}
use Rattle.block_ledger.specs.{Counts.one_more, Entries.count_of}
use Rattle.block_ledger.proofs.Lookups.{absent_gap, read_count, put_count, add_count}
use Rattle.block_ledger.proofs.Times.{fresh_more}
use mathlib.Core.Bool.{false≢true}
use Rattle.block_ledger.proofs.ledger.Ledger.hold.Goals as goal

pub add-requires-clause-room : goal.add-requires-clause-room
add-requires-clause-room c = ⊎_elim
    (λ there. absurd (false≢true
    (subst IsSome (absent_gap c.args.self.now.entries c.args.id c.in-Err.i c.in-Err.ensures.absent) there)))
    (λ room. room)
    c.requires

pub returns-in-Ok-clause-counts : goal.returns-in-Ok-clause-counts
returns-in-Ok-clause-counts c =
    let entries = c.args.self.now.entries in
    let here = c.in-Ok.ensures.found in
    let rising = c.position.ensures.rising in
    let read = c.raised.ensures ∙ ap (λ (o : Option ℕ). Some (one_more o))
    (read_count entries c.args.id c.in-Ok.i c.count_at.result rising here c.count_at.ensures) in
    put_count entries c.set_count.new.self.entries c.args.id c.in-Ok.i _ rising here
    (rw read at c.set_count.ensures.entries)

pub returns-in-Err-clause-counts : goal.returns-in-Err-clause-counts
returns-in-Err-clause-counts c = add_count c.args.self.now.entries c.add.new.self.entries c.args.id c.in-Err.i
    c.in-Err.ensures.absent c.add.ensures.entries

pub returns-in-Err-clause-there : goal.returns-in-Err-clause-there
returns-in-Err-clause-there c = λ there. absurd
    (false≢true (subst IsSome (absent_gap c.args.self.now.entries c.args.id c.in-Err.i c.in-Err.ensures.absent) there))

pub returns-in-Ok-clause-fresh : goal.returns-in-Ok-clause-fresh
returns-in-Ok-clause-fresh c = λ ids few fresh.
    fresh_more ids (count_of c.args.self.now) (count_of c.set_count.new.self) c.args.id few
    (returns-in-Ok-clause-counts c) fresh

pub returns-in-Err-clause-fresh : goal.returns-in-Err-clause-fresh
returns-in-Err-clause-fresh c = λ ids few fresh.
    fresh_more ids (count_of c.args.self.now) (count_of c.add.new.self) c.args.id few
    (returns-in-Err-clause-counts c) fresh
