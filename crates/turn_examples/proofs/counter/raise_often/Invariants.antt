-- The seat stays at the turn, with its number and none more away, and has made this many raises.
use Rattle.std.proofs.Common.{◌≡◌, ◌+◌, length}
use Rattle.pin_turn.specs.Calls.{known, IsOf}
use Rattle.turn_examples.proofs.counter.raise_often.Given as goal

abbrev pub invariant-loop-count : goal.invariant-loop-count
invariant-loop-count g l = record {
  same : IsOf l.turn l.seat;
  number : (known l.seat).number ≡ (known l.fn.seat).number;
  away : (known l.seat).away ≡ (known l.fn.seat).away;
  made : length (known l.seat).mine ≡ length (known l.fn.seat).mine + l.count;
}
