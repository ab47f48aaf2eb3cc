-- The seat went on by reclaims.
use Rattle.std.proofs.Common.{◌≡◌, ◌+◌, length}
use Rattle.pin_turn.specs.Calls.{known}
use Rattle.studio_seats.specs.{Desks.IsAt, Onward.Onward, Freeing.IsFullReclaim}
use Rattle.seat_examples.proofs.jobs.reclaim.Given as goal

abbrev pub invariant-rounds : goal.invariant-rounds
invariant-rounds g l = record {
  same : IsAt l.desk l.seat;
  goes : Onward IsFullReclaim (known l.fn.seat) (known l.seat);
  turns : length (known l.seat).mine ≡ length (known l.fn.seat).mine + l.counter;
}
