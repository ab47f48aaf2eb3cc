-- The blocks so far are common, and so are those that are found after them.
use Rattle.std.proofs.Common.{◌≡◌, ◌+◌, drop}
use Rattle.block_sequence.specs.Fronts.{common}
use Rattle.block_sequence.proofs.row_fronts.common_blocks.Given as goal

abbrev pub invariant-loop-i : goal.invariant-loop-i
invariant-loop-i l = l.i + common (drop l.i l.a) (drop l.i l.b) ≡ common l.a l.b
