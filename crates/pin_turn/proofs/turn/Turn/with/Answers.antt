-- From taking the turn to giving it back: the value and the entry that are given fit the rule, and make one turn.
use Rattle.std.proofs.Common.{ap, refl}
use Rattle.pin_turn.proofs.Calls.{rests, gives_value, gives_entry, turned}
use Rattle.pin_turn.proofs.turn.Turn.with.Goals as goal

pub invariant_of-seat : goal.invariant_of-seat
invariant_of-seat g c =
    record { rests = rests _ _ c.in_default.ensures.took (ap (λ s. s.me.0.stage) c.args.seat.now.rests) }

pub give-requires-clause-value : goal.give-requires-clause-value
give-requires-clause-value g c = gives_value c.in-Some.ensures.took.0 (ap (λ s. s.me.1) c.args.seat.now.rests)
    c.requires.seat.1 c.in-Some.ensures.took.2 c.swap.ensures.2 c.swap.ensures.3 c.unwrap-value.ensures
    record { shown = _; shows = refl; left = _; called = c.f-reply.ensures; leaves = refl }
    c.swap-left.ensures.3 c.requires.fits

pub give-requires-clause-entry : goal.give-requires-clause-entry
give-requires-clause-entry g c = gives_entry c.in-Some.ensures.took.0 (ap (λ s. s.me.1) c.args.seat.now.rests)
    c.requires.seat.1 c.in-Some.ensures.took.2 c.swap.ensures.2 c.swap.ensures.3 c.unwrap-value.ensures
    record { shown = _; shows = refl; left = _; called = c.f-reply.ensures; leaves = refl }
    c.swap-left.ensures.3 c.requires.fits

pub invariant_of-seat-2 : goal.invariant_of-seat-2
invariant_of-seat-2 g c = record { rests = rests _ _ c.give.ensures.2 refl }

pub returns-clause-turned : goal.returns-clause-turned
returns-clause-turned g c = turned c.in-Some.ensures.took.0 (ap (λ s. s.me.1) c.args.seat.now.rests)
    c.requires.seat.1 c.in-Some.ensures.took.2 c.swap.ensures.2 c.swap.ensures.3 c.unwrap-value.ensures
    record { shown = _; shows = refl; left = _; called = c.f-reply.ensures; leaves = refl }
    c.swap-left.ensures.3 c.requires.fits
    _ (ap (λ m. m.0) c.give.ensures.2) (ap (λ s. s.me.0.stage) c.args.seat.now.rests)
