-- What is left decides.
use Rattle.std.proofs.Common.{drop}
use Rattle.row_examples.specs.Fours.{AreFours}
use Rattle.row_examples.proofs.fours.are_fours.Given as goal

abbrev pub invariant-loop-i : goal.invariant-loop-i
invariant-loop-i l = AreFours (drop l.i l.blocks) → AreFours l.blocks
