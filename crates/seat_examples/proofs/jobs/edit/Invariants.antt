-- The seat went on by ramps.
use Rattle.std.proofs.Common.{◌≡◌, ◌+◌, length}
use Rattle.pin_turn.specs.Calls.{known}
use Rattle.studio_seats.specs.{Desks.IsAt, Onward.Onward}
use Rattle.seat_examples.specs.Jobs.{IsRampIn}
use Rattle.seat_examples.proofs.jobs.edit.Given as goal

abbrev pub invariant-lines : goal.invariant-lines
invariant-lines g l = record {
  same : IsAt l.desk l.seat;
  goes : Onward (IsRampIn l.fn.track) (known l.fn.seat) (known l.seat);
  turns : length (known l.seat).mine ≡ length (known l.fn.seat).mine + l.counter;
}
