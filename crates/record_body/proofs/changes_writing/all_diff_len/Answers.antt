-- One track more is counted.
use Rattle.record_body.proofs.Common.{arith, diff_bytes, drop_some}
use Rattle.record_body.proofs.{Agreeing.agrees_at, Agreeing.keeps_at, Chosen.diff_size, Parts.parts_left}
use Rattle.record_body.proofs.changes_writing.all_diff_len.Goals as goal

pub choice_in-requires-clause-numbers : goal.choice_in-requires-clause-numbers
choice_in-requires-clause-numbers c = search (arith, c.requires.numbers, c.track_at-track.ensures, agrees_at)

pub choice_in-requires-clause-kept : goal.choice_in-requires-clause-kept
choice_in-requires-clause-kept c =
    keeps_at c.args.kept c.args.current.now c.args.point.now c.loop-i.i _ c.requires.kept c.track_at-track.ensures

pub loop-i-preserved : goal.loop-i-preserved
loop-i-preserved c =
    let left = parts_left (diff_bytes c.args.current.now) c.args.point.now c.loop-i.i _
    (drop_some c.args.point.now c.loop-i.i _ c.track_at-track.ensures) in
    let size = diff_size c.args.current.now _ _ c.choice_in.ensures.value in
    record {
      same = omega (arith, left, size, c.diff_len-len.ensures.value, c.loop-i.invariant.same);
      few = omega (arith, c.diff_len-len.ensures.few, c.loop-i.invariant.few);
    }
