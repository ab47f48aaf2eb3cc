-- What the loop of `count` keeps.
use Rattle.std.proofs.Common.{◌≡◌, ◌+◌, drop}
use Rattle.pcm_base.specs.Blocks.{blocks_len}
use Rattle.block_sequence.proofs.rows.count.Given as goal

abbrev pub invariant-loop-block : goal.invariant-loop-block
invariant-loop-block l = l.len + blocks_len (drop l.block-index l.blocks) ≡ blocks_len l.blocks
