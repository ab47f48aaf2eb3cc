-- The samples so far, and those of the blocks that are left to count.
use Rattle.record_body.proofs.Common.{◌≡◌, ◌+◌, take, drop, blocks_len}
use Rattle.block_sequence.specs.Rows.{flat}
use Rattle.record_body.proofs.old_blocks.len_to.Given as goal

abbrev pub invariant-loop-row : goal.invariant-loop-row
invariant-loop-row l = l.len + blocks_len (take l.left (flat (drop l.row-index l.rows)))
    ≡ blocks_len (take l.count (flat l.rows))
