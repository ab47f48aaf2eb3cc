-- The deed of the turn.
use Rattle.studio_seats.proofs.Common.{ℕ, Loaded, LoadPin, known, tracks_in, as_reply, quiet}
use Rattle.studio_seats.proofs.desk.Desk.load_pin.Given as goal

abbrev pub ghosts-with : goal.ghosts-with
ghosts-with g a = record {
  added = λ r f'. quiet (known a.seat.now) (LoadPin (a.f.now.0.now) (a.f.now.1.now) a.f.now.2.now)
      (as_reply (λ (_ : ℕ). Loaded (tracks_in f'.3.now)) r.what);
}
