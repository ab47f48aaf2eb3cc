-- The store that gives the turn back keeps the rule.
use Rattle.std.proofs.Common.{rules}
use Rattle.pin_turn.proofs.KeepsTurn.{gives_turn}
use Rattle.pin_turn.proofs.turn.Turn.give.Goals as goal

pub store-requires : goal.store-requires
store-requires g c = (
  search rules,
  search rules,
  gives_turn g.T.Stands.stands g.T.Stands.maker _ _ _ _ _ c.requires.value.0 c.requires.entry.0 g.J.Adds.added
      c.requires.place.1 c.requires.word.0 c.requires.value.1 c.requires.value.2 c.requires.entry.1 c.requires.entry.2,
)
