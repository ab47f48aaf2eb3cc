-- One track more is counted.
use Rattle.record_body.proofs.Common.{arith, subst, sym, take, take_all, track_bytes, AreLayouts, drop_some, take_some}
use Rattle.record_body.proofs.{Parts.parts_left, Lengths.AreLayouts-push}
use Rattle.record_body.proofs.writing.tracks_len.Goals as goal

pub loop-i-preserved : goal.loop-i-preserved
loop-i-preserved c =
    let left = parts_left track_bytes c.args.point.now c.loop-i.i _
    (drop_some c.args.point.now c.loop-i.i _ c.track_at.ensures) in
    record {
      same = omega (arith, left, c.track_len-len.ensures.value, c.loop-i.invariant.same);
      few = omega (arith, c.track_len-len.ensures.few, c.loop-i.invariant.few);
      layouts = subst AreLayouts (sym (take_some c.args.point.now c.loop-i.i _ c.track_at.ensures))
          (AreLayouts-push
          (take c.loop-i.i c.args.point.now) _ c.loop-i.invariant.layouts c.track_len-len.ensures.layout);
    }

pub returns-clause-layouts : goal.returns-clause-layouts
returns-clause-layouts c = subst AreLayouts (take_all c.loop-i.i c.args.point.now
    (omega (arith, c.loop-i-test.false, c.len-i-end.ensures.value))) c.loop-i.invariant.layouts
