-- The first seat is the last one left, so it has seen all, and the value is at home.
use Rattle.std.proofs.Common.{rules, sym, ap, subst, ◌∙◌, ◌≡◌, Some}
use Rattle.std.specs.Prelude.{IsSome}
use Rattle.pin_turn.proofs.KeepsEnd.{closes}
use mathlib.Core.Option.{some-injective}
use Rattle.pin_turn.proofs.turn.Turn.close.Goals as goal

pub unwrap-value-requires : goal.unwrap-value-requires
unwrap-value-requires g c =
    let h = closes g.T.Stands.stands g.T.Stands.maker c.args.self.table.shared.key.value _ _ _ _
    (ap (λ s. s.me.0.stage) c.args.seat.rests) c.requires.1 c.requires.2 c.close_with-closed.ensures.values.2 in
    let is : c.take.result ≡ Some h.0 = some-injective _ _ (sym c.take.ensures.value ∙ h.1) in
    subst IsSome (sym is) (search rules)

pub returns-clause-stands : goal.returns-clause-stands
returns-clause-stands g c =
    let h = closes g.T.Stands.stands g.T.Stands.maker c.args.self.table.shared.key.value _ _ _ _
    (ap (λ s. s.me.0.stage) c.args.seat.rests) c.requires.1 c.requires.2 c.close_with-closed.ensures.values.2 in
    let is : c.take.result ≡ Some h.0 = some-injective _ _ (sym c.take.ensures.value ∙ h.1) in
    let same : h.0 ≡ c.unwrap-value.result = cc (c.unwrap-value.ensures) in
    subst (λ x. g.T.Stands.stands c.args.self.table.shared.key.value x c.args.seat.place.me.0.seen) same h.2

pub returns-clause-mine : goal.returns-clause-mine
returns-clause-mine g c = (closes g.T.Stands.stands g.T.Stands.maker c.args.self.table.shared.key.value _ _ _ _
    (ap (λ s. s.me.0.stage) c.args.seat.rests) c.requires.1 c.requires.2 c.close_with-closed.ensures.values.2).3

pub returns-clause-spent : goal.returns-clause-spent
returns-clause-spent g c = (closes g.T.Stands.stands g.T.Stands.maker c.args.self.table.shared.key.value _ _ _ _
    (ap (λ s. s.me.0.stage) c.args.seat.rests) c.requires.1 c.requires.2 c.close_with-closed.ensures.values.2).4
