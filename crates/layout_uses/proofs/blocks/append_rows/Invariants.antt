-- The ids so far.
use Rattle.layout_uses.proofs.Common.{take}
use Rattle.block_sequence.specs.Rows.{flat}
use Rattle.layout_uses.proofs.Parts.{IsPart}
use Rattle.layout_uses.proofs.blocks.append_rows.Given as goal

abbrev pub invariant-loop-row : goal.invariant-loop-row
invariant-loop-row l = IsPart l.from l.to (flat (take l.row-index l.rows)) l.fn.ids.items l.ids.items l.skip l.end
