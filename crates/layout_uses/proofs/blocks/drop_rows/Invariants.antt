-- What the loop of `drop_rows` keeps.
use Rattle.layout_uses.proofs.Common.{take, Unnames}
use Rattle.block_sequence.specs.Rows.{flat}
use Rattle.layout_uses.proofs.blocks.drop_rows.Given as goal

abbrev pub invariant-loop-row : goal.invariant-loop-row
invariant-loop-row l = Unnames l.fn.ledger l.ledger (flat (take l.row-index l.rows))
