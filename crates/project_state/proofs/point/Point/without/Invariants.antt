-- The tracks so far.
use Rattle.std.proofs.Common.{◌≡◌, take}
use Rattle.project_state.specs.Tracks.{without}
use Rattle.project_state.proofs.point.Point.without.Given as goal

abbrev pub invariant-loop-i : goal.invariant-loop-i
invariant-loop-i l = l.out ≡ without l.id (take l.i l.self)
