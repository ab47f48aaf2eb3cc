-- The tracks from a place on are used.
use Rattle.layout_uses.proofs.Common.{drop, Comes}
use Rattle.layout_uses.proofs.tally.Tally.use_point.Given as goal

abbrev pub invariant-loop-i : goal.invariant-loop-i
invariant-loop-i l = Comes (drop l.i l.point) l.fn.self l.self
