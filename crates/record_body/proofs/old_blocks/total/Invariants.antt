-- The samples so far, and those of the blocks that are left.
use Rattle.record_body.proofs.Common.{◌≡◌, ◌+◌, drop, blocks_len}
use Rattle.record_body.proofs.old_blocks.total.Given as goal

abbrev pub invariant-loop-block : goal.invariant-loop-block
invariant-loop-block l = l.len + blocks_len (drop l.block-index l.blocks) ≡ blocks_len l.blocks
