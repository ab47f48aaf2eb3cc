-- The deed of the turn.
use Rattle.studio_seats.proofs.Common.{length, take, Frames, ReadPin, known, as_reply, quiet}
use Rattle.studio_seats.proofs.desk.Desk.read_pin.Given as goal

abbrev pub ghosts-with : goal.ghosts-with
ghosts-with g a = record {
  added = λ r f'. quiet (known a.seat.now) (ReadPin (a.f.now.0.now) (a.f.now.1.now) (length a.f.now.2.now))
      (as_reply (λ n. Frames (take n f'.2.now)) r.what);
}
