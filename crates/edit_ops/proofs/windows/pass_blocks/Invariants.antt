-- What the loop of `pass_blocks` keeps.
use Rattle.edit_ops.proofs.Common.{◌≡◌, ◌+◌, ◌-◌, ◌≤◌, length, drop}
use Rattle.pcm_base.specs.Blocks.{blocks_len}
use Rattle.edit_ops.proofs.windows.pass_blocks.Given as goal

abbrev pub invariant-rows : goal.invariant-rows
invariant-rows l = record {
  within : l.count ≤ length l.blocks;
  size : l.size + blocks_len (drop l.count l.blocks) ≡ blocks_len l.blocks;
  past : l.size ≤ l.place;
}

abbrev pub decreases-rows : goal.decreases-rows
decreases-rows l = length l.blocks - l.count
