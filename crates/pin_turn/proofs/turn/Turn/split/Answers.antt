-- The draw of a number and the split keep the rule, and both seats rest afterwards.
use Rattle.std.proofs.Common.{◌≡◌, ℕ, rules, refl, sym, subst, ap, ◌∙◌}
use Rattle.pin_turn.specs.{Views.drawn_or, Rule.IsNewNumber}
use Rattle.pin_turn.proofs.{KeepsSplits.draws_number, KeepsSplits.splits, Calls.rests, Calls.is_settled}
use Rattle.pin_turn.proofs.turn.Turn.split.Goals as goal

pub load-requires : goal.load-requires
load-requires g c = (
  search rules,
  search rules,
  draws_number g.T.Stands.stands g.T.Stands.maker _ _ _ _ (ap (λ s. s.me.0.stage) c.args.seat.now.rests),
)

pub split_seat-place-requires : goal.split_seat-place-requires
split_seat-place-requires g c = (
  search rules,
  search rules,
  splits g.T.Stands.stands g.T.Stands.maker _ _ _ c.load.ensures.2.0 (ap (λ m. m.0.stage) c.load.ensures.2.2),
)

pub invariant_of-seat : goal.invariant_of-seat
invariant_of-seat g c = record {
  rests = is_settled _ (ap (λ m. m.0.stage) c.split_seat-place.ensures.2) (ap (λ m. m.1)
      c.split_seat-place.ensures.2 ∙ (ap (λ m. m.1) c.load.ensures.2.2 ∙ ap (λ s. s.me.1) c.args.seat.now.rests));
}

pub invariant_of-result : goal.invariant_of-result
invariant_of-result g c = record { rests = rests _ _ c.split_seat-place.ensures.4 refl }

pub returns-clause-number : goal.returns-clause-number
returns-clause-number g c = let k : ℕ = c.load.ensures.2.0 in
    let is : k ≡ c.split_seat-place.result.me.0.number =
    sym (ap (λ m. m.0.number) c.split_seat-place.ensures.4 ∙ ap (λ m. drawn_or 0 m.0.stage) c.load.ensures.2.2) in
    subst (IsNewNumber g.T.Stands.maker c.args.seat.now.place.me.0) is c.load.ensures.2.1
