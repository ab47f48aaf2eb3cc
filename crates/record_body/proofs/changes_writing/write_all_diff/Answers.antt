-- One track more is written.
use Rattle.record_body.proofs.Common.{length, ap, ◌∙◌, arith, diff_bytes, take_some, drop_some}
use Rattle.record_body.proofs.{Agreeing.agrees_at, Agreeing.keeps_at, Chosen.diff_size, Chosen.diff_told}
use Rattle.record_body.proofs.Parts.{part_next, parts_left}
use Rattle.record_body.proofs.changes_writing.write_all_diff.Goals as goal

pub choice_in-choice-requires-clause-numbers : goal.choice_in-choice-requires-clause-numbers
choice_in-choice-requires-clause-numbers c = search (arith, c.requires.numbers, c.track_at-track.ensures, agrees_at)

pub choice_in-choice-requires-clause-kept : goal.choice_in-choice-requires-clause-kept
choice_in-choice-requires-clause-kept c =
    keeps_at c.args.kept c.args.current.now c.args.point.now c.loop-i.i _ c.requires.kept c.track_at-track.ensures

pub slice_bounds-write_diff-end : goal.slice_bounds-write_diff-end
slice_bounds-write_diff-end c =
    let left = parts_left (diff_bytes c.args.current.now) c.args.point.now c.loop-i.i _
    (drop_some c.args.point.now c.loop-i.i _ c.track_at-track.ensures) in
    let size = diff_size c.args.current.now _ _ c.choice_in-choice.ensures.value in
    omega (arith, left, size, c.diff_len.ensures.value, c.loop-i.invariant.room)

pub loop-i-preserved : goal.loop-i-preserved
loop-i-preserved c =
    let size = diff_size c.args.current.now _ _ c.choice_in-choice.ensures.value in
    part_next (diff_bytes c.args.current.now) c.args.point.now c.loop-i.i _ c.loop-i.at _ c.loop-i.out
    c.write_diff.new.out _ (take_some c.args.point.now c.loop-i.i _ c.track_at-track.ensures)
    (drop_some c.args.point.now c.loop-i.i _ c.track_at-track.ensures) c.loop-i.invariant
    (c.write_diff.ensures ∙ diff_told c.args.current.now _ _ c.choice_in-choice.ensures.value)
    (omega (arith, c.diff_len.ensures.value, size))
    (omega (arith, c.diff_len.ensures.value, ap length c.write_diff.ensures))
