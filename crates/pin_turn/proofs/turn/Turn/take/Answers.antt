-- The look at the word and the exchange that takes the turn keep the rule.
use Rattle.std.proofs.Common.{rules, ap, ◌∙◌}
use Rattle.pin_turn.proofs.KeepsTurn.{looks, takes_turn}
use Rattle.pin_turn.proofs.turn.Turn.take.Goals as goal

pub load-word-requires : goal.load-word-requires
load-word-requires g c = (search rules, search rules, looks g.T.Stands.stands g.T.Stands.maker _ _ _ _)

pub compare_exchange-requires : goal.compare_exchange-requires
compare_exchange-requires g c = let same = c.load-word.ensures.2.1 c.if-word-ge-END.false in (
  search rules,
  search rules,
  takes_turn g.T.Stands.stands g.T.Stands.maker _ _ _ _ c.load-word.result
      (ap (λ m. m.0.stage) (same ∙ c.loop.invariant.2) ∙ c.requires.1) c.if-word-eq0.true c.if-word-ge-END.false,
)
