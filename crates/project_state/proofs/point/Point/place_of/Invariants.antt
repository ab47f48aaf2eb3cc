-- None of the tracks so far.
use Rattle.std.proofs.Common.{◌≡◌, drop}
use Rattle.project_state.specs.Tracks.{track_of}
use Rattle.project_state.proofs.point.Point.place_of.Given as goal

abbrev pub invariant-loop-i : goal.invariant-loop-i
invariant-loop-i l = track_of l.id l.self ≡ track_of l.id (drop l.i l.self)
