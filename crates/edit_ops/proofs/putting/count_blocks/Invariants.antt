-- What the loop of `count_blocks` keeps.
use Rattle.edit_ops.proofs.Common.{◌≡◌, ◌+◌, length, drop, layout_blocks}
use Rattle.edit_ops.proofs.putting.count_blocks.Given as goal

abbrev pub invariant-loop-clip : goal.invariant-loop-clip
invariant-loop-clip l = l.count + length (layout_blocks (drop l.clip-index l.clips)) ≡ length (layout_blocks l.clips)
