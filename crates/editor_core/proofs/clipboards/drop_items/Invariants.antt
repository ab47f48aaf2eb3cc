-- The items so far.
use Rattle.editor_core.proofs.Common.{take, strip_blocks, Unnames}
use Rattle.editor_core.proofs.clipboards.drop_items.Given as goal

abbrev pub invariant-loop-item : goal.invariant-loop-item
invariant-loop-item l = Unnames l.fn.ledger l.ledger (strip_blocks (take l.item-index l.items))
