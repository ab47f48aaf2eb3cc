-- A seat that was split off is joined again, and the first seat closes the desk.
use Rattle.std.proofs.Common.{◌∙◌, ap}
use Rattle.pin_turn.specs.Calls.{known}
use Rattle.pin_turn.proofs.Calls.{rejoins}
use Rattle.studio_seats.specs.Deeds.{actor_of}
use Rattle.studio_seats.proofs.Turns.{seat_stays}
use Rattle.desk_examples.proofs.load_tests.another_seat_commits_between_two_loads.Goals as goal

pub join-requires-clause-away : goal.join-requires-clause-away
join-requires-clause-away g c =
    let made = c.split-other.ensures in
    let first = seat_stays _ _ _ _ _ _ _ _ c.load_pin-first.result c.load_pin-first.ensures.says in
    let second = seat_stays _ _ _ _ _ _ _ _ c.load_pin-second.result c.load_pin-second.ensures.says in
    let undone = seat_stays _ _ _ _ _ _ _ _ c.undo.result c.undo.ensures.says in
    let again = seat_stays _ _ _ _ _ _ _ _ c.undo-2.result c.undo-2.ensures.says in
    let h = rejoins actor_of _ _ (known c.load_pin-second.new.seat) _ (known c.undo-2.new.seat) made.kept.1 made.new.1
    made.number (second.1 ∙ first.1) (again.0 ∙ undone.0) (again.1 ∙ undone.1) in
    (h.0, h.1)

pub close-studio-requires : goal.close-studio-requires
close-studio-requires g c =
    let made = c.split-other.ensures in
    let first = seat_stays _ _ _ _ _ _ _ _ c.load_pin-first.result c.load_pin-first.ensures.says in
    let second = seat_stays _ _ _ _ _ _ _ _ c.load_pin-second.result c.load_pin-second.ensures.says in
    let undone = seat_stays _ _ _ _ _ _ _ _ c.undo.result c.undo.ensures.says in
    let again = seat_stays _ _ _ _ _ _ _ _ c.undo-2.result c.undo-2.ensures.says in
    let h = rejoins actor_of _ _ (known c.load_pin-second.new.seat) _ (known c.undo-2.new.seat) made.kept.1 made.new.1
    made.number (second.1 ∙ first.1) (again.0 ∙ undone.0) (again.1 ∙ undone.1) in
    let at_first = c.in_ok-desk.ensures.first in
    let number = second.0 ∙ first.0 ∙ ap (λ z. z.number) made.kept.1 ∙ at_first.0 in (
      c.join.ensures.kept.0,
      ap (λ z. z.number) c.join.ensures.kept.1 ∙ number,
      ap (λ z. z.away) c.join.ensures.kept.1 ∙ h.2 ∙ at_first.1,
    )
