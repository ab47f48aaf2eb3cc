-- The blocks so far.
use Rattle.editor_core.proofs.Common.{◌≡◌, map, take, block_behind}
use Rattle.editor_core.proofs.growth.moved_blocks.Given as goal

abbrev pub invariant-loop-block : goal.invariant-loop-block
invariant-loop-block l = l.out.items ≡ map (block_behind l.skip) (take l.block-index l.blocks)
