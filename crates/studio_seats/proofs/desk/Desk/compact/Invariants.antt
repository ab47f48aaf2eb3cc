-- The deed of the turn.
use Rattle.studio_seats.proofs.Common.{Packed, Line, Compact, known, as_reply, quiet}
use Rattle.studio_seats.proofs.desk.Desk.compact.Given as goal

abbrev pub ghosts-with : goal.ghosts-with
ghosts-with g a = record { added = λ r f'. quiet (known a.seat.now) (Line Compact) (as_reply Packed r.what) }
