-- One of the two has no more blocks.
use Rattle.std.proofs.Common.{arith}
use Rattle.block_sequence.proofs.Fronts.{common_ends}
use Rattle.block_sequence.proofs.row_fronts.common_blocks.Goals as goal

pub returns-clause-value : goal.returns-clause-value
returns-clause-value c =
    search (arith, c.loop-i-test.false, c.loop-i.invariant, c.loop-i.auto.i-end, c.min-most.ensures, common_ends)
