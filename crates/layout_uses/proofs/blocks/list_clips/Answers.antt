-- What stays at both ends, and what is gathered between, are the ids of the layout.
use Rattle.layout_uses.proofs.Common.{◌≡◌, sym, ap, subst, ◌∙◌, ◌++◌, ◌+◌, ◌-◌, ◌<◌, ◌^◌, ℕ, List, arith, counts_of}
use Rattle.layout_uses.proofs.Common.{ids_of, layout_blocks, list_of, occurrences, times, ListComes}
use Rattle.std.specs.Prelude.{OnOk}
use Rattle.block_sequence.specs.Rows.{from_to}
use Rattle.clip_track.specs.Kept.{Keeps}
use Rattle.row_ledger.specs.{Lists.ids_or_none, Lists.list_like, Rows.AreThere}
use Rattle.layout_uses.proofs.Parts.{blocks_like, kept_room}
use Rattle.layout_uses.proofs.blocks.list_clips.Goals as goal

pub overflow_sub-to : goal.overflow_sub-to
overflow_sub-to c =
    let k = c.kept_of-stays.result in
    let bs = layout_blocks c.args.clips.now in
    let o = list_of c.args.ledger.now c.args.base in
    let keeps : Keeps k (ids_or_none o) (ids_of bs) = c.kept_of-stays.ensures (ids_of bs) c.requires.kept in
    omega (arith, kept_room k (ids_or_none o) bs keeps, c.in_ok-count.ensures)

pub overflow_sub-to-2 : goal.overflow_sub-to-2
overflow_sub-to-2 c =
    let k = c.kept_of-stays.result in
    let bs = layout_blocks c.args.clips.now in
    let o = list_of c.args.ledger.now c.args.base in
    let keeps : Keeps k (ids_or_none o) (ids_of bs) = c.kept_of-stays.ensures (ids_of bs) c.requires.kept in
    omega (arith, kept_room k (ids_or_none o) bs keeps, c.in_ok-count.ensures)

pub hold_list-requires-clause-within : goal.hold_list-requires-clause-within
hold_list-requires-clause-within c =
    let k = c.kept_of-stays.result in
    let bs = layout_blocks c.args.clips.now in
    let o = list_of c.args.ledger.now c.args.base in
    let keeps : Keeps k (ids_or_none o) (ids_of bs) = c.kept_of-stays.ensures (ids_of bs) c.requires.kept in
    keeps.in_old

pub hold_list-requires-clause-there : goal.hold_list-requires-clause-there
hold_list-requires-clause-there c =
    let k = c.kept_of-stays.result in
    let bs = layout_blocks c.args.clips.now in
    let o = list_of c.args.ledger.now c.args.base in
    let keeps : Keeps k (ids_or_none o) (ids_of bs) = c.kept_of-stays.ensures (ids_of bs) c.requires.kept in
    let to = c.in_ok-count.count - k.back in
    let mid = c.as_slice.result.now in
    let same : list_like c.args.ledger.now c.args.base k.front k.back mid ≡ ids_of bs =
    blocks_like k (ids_or_none o) bs to mid keeps (omega (arith, c.in_ok-count.ensures))
    (c.as_slice.ensures.value
    ∙ c.in_ok-append_clips.ensures
    ∙ ap (λ (z : List ℕ). z ++ ids_of (from_to k.front to bs)) (c.reserve.ensures.items ∙ c.new-ids.ensures.items)) in
    subst (AreThere (counts_of c.args.ledger.now)) (sym same) c.requires.there

pub hold_list-requires-clause-few : goal.hold_list-requires-clause-few
hold_list-requires-clause-few c =
    let k = c.kept_of-stays.result in
    let bs = layout_blocks c.args.clips.now in
    let o = list_of c.args.ledger.now c.args.base in
    let keeps : Keeps k (ids_or_none o) (ids_of bs) = c.kept_of-stays.ensures (ids_of bs) c.requires.kept in
    let to = c.in_ok-count.count - k.back in
    let mid = c.as_slice.result.now in
    let same : list_like c.args.ledger.now c.args.base k.front k.back mid ≡ ids_of bs =
    blocks_like k (ids_or_none o) bs to mid keeps (omega (arith, c.in_ok-count.ensures))
    (c.as_slice.ensures.value
    ∙ c.in_ok-append_clips.ensures
    ∙ ap (λ (z : List ℕ). z ++ ids_of (from_to k.front to bs)) (c.reserve.ensures.items ∙ c.new-ids.ensures.items)) in
    subst (λ (z : List ℕ). (id : ℕ) → occurrences (counts_of c.args.ledger.now id) + times id z < 2 ^ 128) (sym same)
    c.requires.few

pub returns-clause-ok : goal.returns-clause-ok
returns-clause-ok c =
    let k = c.kept_of-stays.result in
    let bs = layout_blocks c.args.clips.now in
    let o = list_of c.args.ledger.now c.args.base in
    let keeps : Keeps k (ids_or_none o) (ids_of bs) = c.kept_of-stays.ensures (ids_of bs) c.requires.kept in
    let to = c.in_ok-count.count - k.back in
    let mid = c.as_slice.result.now in
    let same : list_like c.args.ledger.now c.args.base k.front k.back mid ≡ ids_of bs =
    blocks_like k (ids_or_none o) bs to mid keeps (omega (arith, c.in_ok-count.ensures))
    (c.as_slice.ensures.value
    ∙ c.in_ok-append_clips.ensures
    ∙ ap (λ (z : List ℕ). z ++ ids_of (from_to k.front to bs)) (c.reserve.ensures.items ∙ c.new-ids.ensures.items)) in
    subst (λ (z : List ℕ). OnOk c.hold_list.result (ListComes c.args.ledger.now c.hold_list.new.self c.args.number z))
    same c.hold_list.ensures.ok
