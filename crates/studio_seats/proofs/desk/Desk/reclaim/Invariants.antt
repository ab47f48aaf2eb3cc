-- The deed of the turn.
use Rattle.studio_seats.proofs.Common.{Freed, Line, Reclaim, known, as_reply, quiet}
use Rattle.studio_seats.proofs.desk.Desk.reclaim.Given as goal

abbrev pub ghosts-with : goal.ghosts-with
ghosts-with g a = record {
  added = λ r f'. quiet (known a.seat.now) (Line (Reclaim (a.f.now.0.now)))
      (as_reply Freed r.what);
}
