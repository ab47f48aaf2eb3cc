-- What the loop of `lay_equal` keeps.
use Rattle.std.proofs.Common.{◌≡◌, ◌≤◌, ◌++◌, length}
use Rattle.pcm_base.specs.{Blocks.blocks_len, declared.limits.TheConstants.MAX_CELLS}
use Rattle.block_sequence.specs.Rows.{flat}
use Rattle.block_sequence.proofs.row_lists.lay_equal.Given as goal

abbrev pub invariant-loop-rest : goal.invariant-loop-rest
invariant-loop-rest l = record {
  all : flat l.out.items ++ l.rest ≡ flat l.fn.out.items ++ l.blocks;
  few : blocks_len l.rest ≤ MAX_CELLS;
}

abbrev pub decreases-loop-rest : goal.decreases-loop-rest
decreases-loop-rest l = length l.rest
