-- The deed of the turn.
use Rattle.studio_seats.proofs.Common.{[], ◌∷◌, Line, name_in_line, known, move_of, as_reply, deed}
use Rattle.studio_seats.proofs.desk.Desk.apply.Given as goal

abbrev pub ghosts-with : goal.ghosts-with
ghosts-with g a = record {
  added = λ r f'. deed (known a.seat.now).number (Line a.f.now.2.now) (as_reply (λ _. f'.3.now.reply) r.what)
      (move_of (name_in_line a.f.now.2.now) (g.V.Vault.holds a.f.now.1.now) (g.V.Vault.holds f'.1.now)) ∷ [];
}
