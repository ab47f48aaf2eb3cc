-- The track at the place that is looked at first, or the first of its id, or none.
use Rattle.std.proofs.Common.{◌≡◌, ℕ, Some, sym, ap, subst, ◌∙◌}
use Rattle.project_state.specs.{declared.track.Track.Track, Tracks.track_of}
use Rattle.project_state.proofs.Points.{some_is, track_here, track_more, track_there}
use Rattle.project_state.proofs.point.Point.place_of.Goals as goal

pub returns-then-is_at-clause-found : goal.returns-then-is_at-clause-found
returns-then-is_at-clause-found c = λ t here.
    subst (λ (id : ℕ). track_of id c.args.self.now ≡ Some t) (c.is_at.ensures.has c.if-is_at.true t here)
    (track_there 0 c.args.first c.args.self.now t c.len-len.ensures.rising here)

pub returns-then-track-id-clause-found : goal.returns-then-track-id-clause-found
returns-then-track-id-clause-found c = λ t here.
    track_here c.args.id c.args.self.now c.loop-i.i c.track_at-track.result.now c.track_at-track.ensures
    c.loop-i.invariant c.if-track-id.true
    ∙ (sym c.track_at-track.ensures ∙ here)

pub returns-then-track-id-clause-id : goal.returns-then-track-id-clause-id
returns-then-track-id-clause-id c = λ t here.
    let same = some_is c.track_at-track.result.now t (sym c.track_at-track.ensures ∙ here) in
    ap (λ (x : Track). x.id) (sym same) ∙ c.if-track-id.true

pub loop-i-preserved : goal.loop-i-preserved
loop-i-preserved c =
    track_more c.args.id c.args.self.now c.loop-i.i _ c.track_at-track.ensures c.loop-i.invariant c.if-track-id.false
