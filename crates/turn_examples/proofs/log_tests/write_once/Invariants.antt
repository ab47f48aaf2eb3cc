-- The entry that a turn of the test adds: the number of the seat alone.
use Rattle.std.proofs.Common.{[], ◌∷◌}
use Rattle.pin_turn.specs.Calls.{known}
use Rattle.turn_examples.proofs.log_tests.write_once.Given as goal

abbrev pub ghosts-with : goal.ghosts-with
ghosts-with g a = record { added = λ r f'. record { by = (known a.seat.now).number } ∷ [] }
