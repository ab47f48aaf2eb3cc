-- The ids so far.
use Rattle.layout_uses.proofs.Common.{◌≡◌, ◌++◌, take, ids_of}
use Rattle.layout_uses.proofs.blocks.append_blocks.Given as goal

abbrev pub invariant-loop-block : goal.invariant-loop-block
invariant-loop-block l = l.ids.items ≡ l.fn.ids.items ++ ids_of (take l.block-index l.blocks)
