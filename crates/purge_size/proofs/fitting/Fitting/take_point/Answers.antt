-- A track that fits, or does not.
use Rattle.std.proofs.Common.{◌≡◌, subst, true, false, ℕ, ◌+◌, ◌-◌, drop, arith}
use Rattle.project_state.specs.declared.track.Track.{Track}
use Rattle.clip_track.specs.Clips.{layout_blocks}
use Rattle.purge_size.specs.Fits.{TakesTracks}
use Rattle.purge_size.proofs.Taking.{same_tracks, small_here, track_here, track_no_more}
use Rattle.purge_size.proofs.fitting.Fitting.take_point.Goals as goal

pub take_track-requires : goal.take_track-requires
take_track-requires c =
    small_here (λ (t : Track). layout_blocks t.layout) c.args.point.now (c.loop-i.i - 1) _ c.track_at.ensures c.requires

pub returns-then-not-branch : goal.returns-then-not-branch
returns-then-not-branch c =
    let next : c.loop-i.i ≡ c.loop-i.i - 1 + 1 = omega (arith, c.loop-i-test.true) in
    track_no_more c.args.point.now
    (c.loop-i.i - 1) _ c.track_at.ensures c.args.self.now c.loop-i.self c.take_track.new.self
    (subst (λ (n : ℕ). TakesTracks true (drop n c.args.point.now) c.args.self.now c.loop-i.self) next
    c.loop-i.invariant)
    (same_tracks _ false _ _ _ c.if-not-branch.true c.in_ok-take_track.ensures)

pub loop-i-preserved : goal.loop-i-preserved
loop-i-preserved c =
    let next : c.loop-i.i ≡ c.loop-i.i - 1 + 1 = omega (arith, c.loop-i-test.true) in
    track_here c.args.point.now
    (c.loop-i.i - 1) _ c.track_at.ensures c.args.self.now c.loop-i.self c.take_track.new.self
    (subst (λ (n : ℕ). TakesTracks true (drop n c.args.point.now) c.args.self.now c.loop-i.self) next
    c.loop-i.invariant)
    (same_tracks _ true _ _ _ c.if-not-branch.false c.in_ok-take_track.ensures)
