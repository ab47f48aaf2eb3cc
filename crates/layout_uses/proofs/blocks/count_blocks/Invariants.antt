-- The blocks so far.
use Rattle.layout_uses.proofs.Common.{◌≡◌, length, take, layout_blocks}
use Rattle.layout_uses.proofs.blocks.count_blocks.Given as goal

abbrev pub invariant-loop-clip : goal.invariant-loop-clip
invariant-loop-clip l = length (layout_blocks (take l.clip-index l.clips)) ≡ l.count
