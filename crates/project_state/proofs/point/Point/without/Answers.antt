-- One track more is shared, or left out.
use Rattle.std.proofs.Common.{List, ◌++◌, sym, ap, subst, ◌∙◌, arith, take, length, length-take, ◌<◌}
use Rattle.project_state.specs.{declared.track.Track.Track, Tracks.AllBelow, Tracks.without, Tracks.other_one}
use Rattle.project_state.proofs.Points.{some_at, take_some, without_taken_below, without_more, without_few}
use Rattle.project_state.proofs.point.Point.without.Goals as goal

pub share_other-requires-clause-above : goal.share_other-requires-clause-above
share_other-requires-clause-above c t here =
    subst (AllBelow t.id) (sym c.loop-i.invariant)
    (without_taken_below c.args.self.now c.loop-i.i c.len-i-end.ensures.rising t here c.args.id)

pub share_other-requires-clause-few : goal.share_other-requires-clause-few
share_other-requires-clause-few c =
    let few = without_few c.args.id (take c.loop-i.i c.args.self.now) in
    subst (λ (ts : List Track). length ts < 64) (sym c.loop-i.invariant)
    (omega (arith, few, length-take c.loop-i.i c.args.self.now, c.loop-i-test.true, c.len-i-end.ensures.few))

pub loop-i-preserved : goal.loop-i-preserved
loop-i-preserved c =
    let at = some_at c.args.self.now c.loop-i.i (omega (arith, c.loop-i-test.true, c.len-i-end.ensures.value)) in
    let id = c.args.id in
    c.in_ok-share_other.ensures at.0 at.1 ∙ ap (λ (ts : List Track). ts ++ other_one id at.0) c.loop-i.invariant
    ∙ sym (without_more id (take c.loop-i.i c.args.self.now) at.0)
    ∙ ap (without id) (sym (take_some c.args.self.now c.loop-i.i at.0 at.1))
