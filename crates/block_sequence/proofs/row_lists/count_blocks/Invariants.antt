-- What the loop of `count_blocks` keeps.
use Rattle.std.proofs.Common.{◌≡◌, ◌+◌, length, drop}
use Rattle.block_sequence.specs.Rows.{flat}
use Rattle.block_sequence.proofs.row_lists.count_blocks.Given as goal

abbrev pub invariant-loop-row : goal.invariant-loop-row
invariant-loop-row l = l.count + length (flat (drop l.row-index l.rows)) ≡ length (flat l.rows)
