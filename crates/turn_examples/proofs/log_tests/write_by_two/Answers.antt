-- A seat that split one off may take it in again, and has none away then that was not away before.
use Rattle.std.proofs.Common.{ap, ◌∙◌}
use Rattle.pin_turn.specs.Calls.{known}
use Rattle.turn_examples.specs.declared.log_tests.Entry.{Entry}
use Rattle.pin_turn.proofs.Calls.{rejoins}
use Rattle.turn_examples.proofs.log_tests.write_by_two.Goals as goal

pub join-requires-clause-away : goal.join-requires-clause-away
join-requires-clause-away g c =
    let made = c.split-other.ensures in
    let one = c.join-one.ensures.first in
    let two = c.join-one.ensures.second in
    let h = rejoins (λ (e : Entry). e.by)
    (known c.args.seat) (known c.split-other.new.seat) (known c.join-one.result.0.0) (known c.split-other.result)
    (known c.join-one.result.1.0) made.kept.1 made.new.1 made.number one.1.1 two.1.0 two.1.1 in
    (h.0, h.1)

pub returns-clause-stays : goal.returns-clause-stays
returns-clause-stays g c =
    let made = c.split-other.ensures in
    let one = c.join-one.ensures.first in
    let two = c.join-one.ensures.second in
    let whole = c.join.ensures.kept.1 in
    let h = rejoins (λ (e : Entry). e.by)
    (known c.args.seat) (known c.split-other.new.seat) (known c.join-one.result.0.0) (known c.split-other.result)
    (known c.join-one.result.1.0) made.kept.1 made.new.1 made.number one.1.1 two.1.0 two.1.1 in
    (ap (λ v. v.number) whole ∙ (one.1.0 ∙ ap (λ v. v.number) made.kept.1), ap (λ v. v.away) whole ∙ h.2)
