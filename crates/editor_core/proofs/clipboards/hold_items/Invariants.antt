-- The items so far.
use Rattle.editor_core.proofs.Common.{take, strip_blocks, Names}
use Rattle.editor_core.proofs.clipboards.hold_items.Given as goal

abbrev pub invariant-loop-item : goal.invariant-loop-item
invariant-loop-item l = Names l.fn.ledger l.ledger (strip_blocks (take l.item-index l.items))
