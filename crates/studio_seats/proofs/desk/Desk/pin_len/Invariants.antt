-- The deed of the turn.
use Rattle.studio_seats.proofs.Common.{Length, PinLen, known, as_reply, quiet}
use Rattle.studio_seats.proofs.desk.Desk.pin_len.Given as goal

abbrev pub ghosts-with : goal.ghosts-with
ghosts-with g a = record { added = λ r f'. quiet (known a.seat.now) (PinLen (a.f.now.0.now)) (as_reply Length r.what) }
