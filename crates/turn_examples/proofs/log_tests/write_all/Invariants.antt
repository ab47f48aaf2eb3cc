-- While a thread of the test writes, its seat stays at the turn, with its number and none more away.
use Rattle.std.proofs.Common.{◌≡◌}
use Rattle.pin_turn.specs.Calls.{known, IsOf}
use Rattle.turn_examples.proofs.log_tests.write_all.Given as goal

abbrev pub invariant-loop-count : goal.invariant-loop-count
invariant-loop-count g l = IsOf l.turn l.seat × ((known l.seat).number ≡ (known l.fn.seat).number)
    × ((known l.seat).away ≡ (known l.fn.seat).away)
