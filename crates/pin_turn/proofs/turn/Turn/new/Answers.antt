-- The rule holds of the table as it is made.
use Rattle.std.proofs.Common.{◌≡◌, List, [], ◌∷◌, ◌++◌, Option, Some, refl, ap, sym, subst, ◌∙◌}
use Rattle.atomic_table.specs.Table.{opening}
use Rattle.pin_turn.specs.{Views.first_view, Rule.TurnRule}
use Rattle.pin_turn.proofs.{KeepsTurn.starts, Calls.rests}
use Rattle.pin_turn.proofs.turn.Turn.new.Goals as goal

pub new-requires : goal.new-requires
new-requires g c = let is : c.of-about.result.value ≡ c.args.value = c.of-about.ensures in
    let laid : Some c.of-about.result.value ∷ [] ≡ c.push_reserved.new.self.items =
    ap (λ (x : g.row.T.Denot). Some x ∷ []) is ∙ (ap (λ (xs : List (Option g.row.T.Denot)). xs ++ Some c.args.value
    ∷ []) (sym c.in-Ok.ensures.items) ∙ sym c.push_reserved.ensures.items) in
    subst (λ (xs : List (Option g.row.T.Denot)). TurnRule g.T.Stands.stands g.T.Stands.maker c.of-about.result.value
    (opening (0 ∷ []) xs (first_view c.of-about.result.value))) laid
    (starts g.T.Stands.stands g.T.Stands.maker c.of-about.result.value
    (subst (λ (x : g.row.T.Denot). g.T.Stands.stands x x []) (sym is) c.requires))

pub invariant_of-result-in-Ok-new : goal.invariant_of-result-in-Ok-new
invariant_of-result-in-Ok-new g c = record { rests = rests _ _ c.in-Ok-new.ensures.ok.4 refl }
