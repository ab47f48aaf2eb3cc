-- One track more is shared, or put in its place.
use Rattle.std.proofs.Common.{List, ◌∷◌, [], ◌++◌, sym, ap, subst, ◌∙◌, arith, take}
use Rattle.project_state.specs.{declared.track.Track.Track, Tracks.AllBelow, Tracks.put_in, Tracks.put_one}
use Rattle.project_state.proofs.Points.{some_at, take_some, put_taken_below, put_more}
use Rattle.project_state.proofs.point.Point.with.Goals as goal

pub choose-requires-clause-above : goal.choose-requires-clause-above
choose-requires-clause-above c t here =
    subst (AllBelow t.id) (sym c.loop-i.invariant)
    (put_taken_below c.args.self.now c.loop-i.i c.len-i-end.ensures.rising t here c.in-Ok.track.value)

pub loop-i-preserved : goal.loop-i-preserved
loop-i-preserved c =
    let at = some_at c.args.self.now c.loop-i.i (omega (arith, c.loop-i-test.true, c.len-i-end.ensures.value)) in
    let new = c.in-Ok.track.value in
    c.in_ok-choose.ensures at.0 at.1 ∙ ap (λ (ts : List Track). ts ++ put_one new at.0 ∷ []) c.loop-i.invariant
    ∙ sym (put_more new (take c.loop-i.i c.args.self.now) at.0)
    ∙ ap (put_in new) (sym (take_some c.args.self.now c.loop-i.i at.0 at.1))
