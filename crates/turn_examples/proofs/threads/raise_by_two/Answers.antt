-- A seat that split one off may take it in again, has none away then that was not away before, and has the raises of
-- both.
use Rattle.std.proofs.Common.{length, length-append, arith, ap, ◌∙◌}
use Rattle.pin_turn.specs.{Calls.known, declared.view.View.View}
use Rattle.pin_turn.proofs.Calls.{rejoins}
use Rattle.turn_examples.specs.{declared.counter.Counter.Counter, declared.counter.Increment.Increment}
use Rattle.turn_examples.proofs.threads.raise_by_two.Goals as goal

pub join-requires-clause-away : goal.join-requires-clause-away
join-requires-clause-away g c =
    let made = c.split-other.ensures in
    let one = c.join-one.ensures.first in
    let two = c.join-one.ensures.second in
    let h = rejoins (λ (e : Increment). e.by) (known c.args.seat)
    (known c.split-other.new.seat) (known c.join-one.result.0.0) (known c.split-other.result)
    (known c.join-one.result.1.0) made.kept.1 made.new.1 made.number one.1.0.1 two.1.0.0 two.1.0.1 in
    (h.0, h.1)

pub returns-clause-stays : goal.returns-clause-stays
returns-clause-stays g c =
    let made = c.split-other.ensures in
    let one = c.join-one.ensures.first in
    let two = c.join-one.ensures.second in
    let whole = c.join.ensures.kept.1 in
    let h = rejoins (λ (e : Increment). e.by) (known c.args.seat)
    (known c.split-other.new.seat) (known c.join-one.result.0.0) (known c.split-other.result)
    (known c.join-one.result.1.0) made.kept.1 made.new.1 made.number one.1.0.1 two.1.0.0 two.1.0.1 in
    (ap (λ v. v.number) whole ∙ (one.1.0.0 ∙ ap (λ v. v.number) made.kept.1), ap (λ v. v.away) whole ∙ h.2)

pub returns-clause-made : goal.returns-clause-made
returns-clause-made g c =
    let made = c.split-other.ensures in
    let one = c.join-one.ensures.first.1.1 in
    let two = c.join-one.ensures.second.1.1 in
    let whole = ap (λ (v : View Counter Increment). length v.mine) c.join.ensures.kept.1 in
    let kept = ap (λ (v : View Counter Increment). length v.mine) made.kept.1 in
    let new = ap (λ (v : View Counter Increment). length v.mine) made.new.1 in
    let both = length-append (known c.join-one.result.0.0).mine (known c.join-one.result.1.0).mine in
    omega (arith, whole, kept, new, both, one, two, c.from.ensures, c.from-2.ensures)
