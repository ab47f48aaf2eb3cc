-- The tracks so far.
use Rattle.std.proofs.Common.{◌≡◌, take}
use Rattle.project_state.specs.Tracks.{put_in}
use Rattle.project_state.proofs.point.Point.with.Given as goal

abbrev pub invariant-loop-i : goal.invariant-loop-i
invariant-loop-i l = l.out ≡ put_in l.track.value (take l.i l.self)
