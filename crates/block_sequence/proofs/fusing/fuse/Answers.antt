-- The goals of `fuse` that the search leaves open.
use Rattle.std.proofs.Common.{List, sym, subst, ap, ◌∙◌, filter}
use Rattle.pcm_base.specs.{Pieces.all_samples, declared.piece.Piece.Piece}
use Rattle.block_sequence.proofs.HalfFull.{AllValid-filter, AllFit-filter, total-filter, samples-filter}
use Rattle.block_sequence.proofs.HalfFull.{IsHalfFull-fused}
use Rattle.block_sequence.proofs.{Count.count_fused, Room.room_fused, Rule.laid_out, Origins.AllFrom-filter}
use Rattle.block_sequence.specs.{Fuse.is_not_empty, Origins.AllFrom}
use Rattle.block_sequence.proofs.fusing.fuse.Goals as goal

pub lay_apart-requires-clause-valid : goal.lay_apart-requires-clause-valid
lay_apart-requires-clause-valid c =
    rw (c.as_slice.ensures.value, c.in_ok-kept.ensures) (AllValid-filter c.args.pieces.now c.requires.valid)

pub lay_apart-requires-clause-fit : goal.lay_apart-requires-clause-fit
lay_apart-requires-clause-fit c =
    rw (c.as_slice.ensures.value, c.in_ok-kept.ensures) (AllFit-filter c.args.m c.args.pieces.now c.requires.fit)

pub lay_apart-requires-clause-few : goal.lay_apart-requires-clause-few
lay_apart-requires-clause-few c = rw (c.as_slice.ensures.value, c.in_ok-kept.ensures, total-filter) c.requires.few

pub returns-clause-samples : goal.returns-clause-samples
returns-clause-samples c src =
    c.in_ok-lay_apart.ensures.samples src ∙ ap (all_samples src) (c.as_slice.ensures.value ∙ c.in_ok-kept.ensures)
    ∙ samples-filter src c.args.pieces.now

pub returns-clause-half_full : goal.returns-clause-half_full
returns-clause-half_full c = rw (c.in_ok-lay_apart.ensures.parts, c.as_slice.ensures.value, c.in_ok-kept.ensures) (
    IsHalfFull-fused c.args.m c.args.pieces.now c.requires.some c.requires.fit)

pub returns-clause-few_made : goal.returns-clause-few_made
returns-clause-few_made c s = rw (c.in_ok-lay_apart.ensures.parts, c.as_slice.ensures.value, c.in_ok-kept.ensures)
    (count_fused c.args.m c.args.pieces.now c.requires.some s)

pub returns-clause-few_samples : goal.returns-clause-few_samples
returns-clause-few_samples c = rw (c.in_ok-lay_apart.ensures.parts, c.as_slice.ensures.value, c.in_ok-kept.ensures)
    (room_fused c.args.m c.args.pieces.now c.requires.some)

pub returns-clause-rule : goal.returns-clause-rule
returns-clause-rule c = rw (c.in_ok-lay_apart.ensures.parts, c.as_slice.ensures.value, c.in_ok-kept.ensures) (
    laid_out c.args.m (filter is_not_empty c.args.pieces.now) c.requires.some)

pub returns-clause-from : goal.returns-clause-from
returns-clause-from c blocks count f =
    let P : List Piece → Type 0 = AllFrom blocks count in
    c.in_ok-lay_apart.ensures.from blocks count (subst P (sym (c.as_slice.ensures.value ∙ c.in_ok-kept.ensures))
    (AllFrom-filter blocks count c.args.pieces.now f))
