-- The deed of the turn.
use Rattle.studio_seats.proofs.Common.{Pinned, Pin, known, as_reply, quiet}
use Rattle.studio_seats.proofs.desk.Desk.pin.Given as goal

abbrev pub ghosts-with : goal.ghosts-with
ghosts-with g a = record { added = λ r f'. quiet (known a.seat.now) Pin (as_reply Pinned r.what) }
