-- What is left decides.
use Rattle.std.proofs.Common.{drop}
use Rattle.row_ledger.specs.Lists.{counts_of}
use Rattle.row_examples.specs.Bounds.{AreAllThere}
use Rattle.row_examples.proofs.tested.has_all.Given as goal

abbrev pub invariant-loop-i : goal.invariant-loop-i
invariant-loop-i l = AreAllThere (counts_of l.ledger) (drop l.i l.ids) → AreAllThere (counts_of l.ledger) l.ids
