-- The deed of the turn.
use Rattle.studio_seats.proofs.Common.{Purged, Line, PurgeTo, known, as_reply, quiet}
use Rattle.studio_seats.proofs.desk.Desk.purge_to.Given as goal

abbrev pub ghosts-with : goal.ghosts-with
ghosts-with g a = record {
  added = λ r f'. quiet (known a.seat.now) (Line (PurgeTo (a.f.now.1.now)))
      (as_reply Purged r.what);
}
