-- The places of the first seat are those of all raises.
use Rattle.std.proofs.Common.{length, arith, ap}
use Rattle.pin_turn.specs.declared.view.View.{View}
use Rattle.pin_turn.proofs.Sums.{counted_length}
use Rattle.turn_examples.specs.{declared.counter.Counter.Counter, declared.counter.Increment.Increment}
use Rattle.turn_examples.proofs.threads.count_up.Goals as goal

pub returns : goal.returns
returns g c =
    let start = ap (λ (z : Counter). z.count) c.in-Ok.ensures.ok.1 in
    let none = ap (λ (v : View Counter Increment). length v.mine) c.in-Ok.ensures.ok.2 in
    let places = counted_length _ _ c.close-counter.ensures.mine in
    let made = c.raise_by_two-seat.ensures.made in
    let count = c.close-counter.ensures.stands.count in
    omega (arith, start, none, places, made, count)
