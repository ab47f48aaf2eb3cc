-- One point more is counted.
use Rattle.editor_core.proofs.Common.{ℕ, List, map, arith, slice_index, tag_of, Track, drop_some, take_some, size_left}
use Rattle.editor_core.proofs.Common.{tagged}
use Rattle.editor_cleanup.proofs.HeaderPoints.{short_next}
use Rattle.editor_core.proofs.texts.points_len.Goals as goal

pub loop-i-preserved : goal.loop-i-preserved
loop-i-preserved c =
    let h = c.args.history.now.history in
    let i = c.loop-i.i in
    let tag = slice_index (map tag_of h.points) i in
    let x : List Track × ℕ = (c.point.result.now, tag) in
    let at = tagged h.points i c.point.result.now c.point.ensures in
    let size = c.point_len-size.ensures.value tag in
    let left = size_left h.points i x (drop_some h.points i x at) in
    let same = c.loop-i.invariant.same in
    let few = c.loop-i.invariant.few in
    let within = c.if-size-gt-LONGEST.false in
    record {
      same = omega (arith, left, size, same);
      few = omega (arith, few, within);
      short = short_next h.points i x (take_some h.points i x at) c.loop-i.invariant.short
          (omega (arith, size, within));
    }
