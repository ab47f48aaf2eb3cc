-- The strips so far, and how many blocks they may name.
use Rattle.editor_core.proofs.Common.{◌*◌, ◌^◌, ◌≤◌, length, take, strips_blocks, Names}
use Rattle.editor_core.proofs.clipboards.hold_strips.Given as goal

abbrev pub invariant-loop-strip : goal.invariant-loop-strip
invariant-loop-strip l = Names l.fn.ledger l.ledger (strips_blocks (take l.strip-index l.strips))
    × (length (strips_blocks (take l.strip-index l.strips)) ≤ l.strip-index * 2 ^ 64)
