-- The deed of the turn.
use Rattle.studio_seats.proofs.Common.{Done, Unpin, known, as_reply, quiet}
use Rattle.studio_seats.proofs.desk.Desk.unpin.Given as goal

abbrev pub ghosts-with : goal.ghosts-with
ghosts-with g a = record {
  added = λ r f'. quiet (known a.seat.now) (Unpin (a.f.now.0.now))
      (as_reply (λ _. Done) r.what);
}
