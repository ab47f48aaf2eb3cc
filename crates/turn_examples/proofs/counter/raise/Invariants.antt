-- The entry of a turn: the number of the seat, and the count that the closure answered.
use Rattle.std.proofs.Common.{[], ◌∷◌}
use Rattle.pin_turn.specs.Calls.{known}
use Rattle.turn_examples.proofs.counter.raise.Given as goal

abbrev pub ghosts-with : goal.ghosts-with
ghosts-with g a = record { added = λ found f'. record { by = (known a.seat.now).number; found = found } ∷ [] }
