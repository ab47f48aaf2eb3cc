-- The deed of the turn.
use Rattle.studio_seats.proofs.Common.{take, Done, Piece, known, as_reply, quiet}
use Rattle.studio_seats.proofs.desk.Desk.try_pieces.Given as goal

abbrev pub ghosts-with : goal.ghosts-with
ghosts-with g a = record {
  added = λ r f'. quiet (known a.seat.now) (Piece (a.f.now.1.now) (a.f.now.2.now) (take f'.4.now a.f.now.3.now))
      (as_reply (λ _. Done) r.what);
}
