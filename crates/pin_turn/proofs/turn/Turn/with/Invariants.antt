-- The entry that is added is the one that the caller picked, by the reply and the closure as it is then.
use Rattle.pin_turn.proofs.turn.Turn.with.Given as goal

abbrev pub ghosts-give : goal.ghosts-give
ghosts-give g a = record { added = g.J.AddsEntry.added a._reply.now a._f.now }
