-- What the loop of `hold_rows` keeps.
use Rattle.layout_uses.proofs.Common.{take, Names}
use Rattle.block_sequence.specs.Rows.{flat}
use Rattle.layout_uses.proofs.blocks.hold_rows.Given as goal

abbrev pub invariant-loop-row : goal.invariant-loop-row
invariant-loop-row l = Names l.fn.ledger l.ledger (flat (take l.row-index l.rows))
