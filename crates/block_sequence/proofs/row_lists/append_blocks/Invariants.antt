-- What the loop of `append_blocks` keeps.
use Rattle.std.proofs.Common.{◌≡◌, ◌++◌, drop}
use Rattle.block_sequence.specs.Rows.{flat, from_to}
use Rattle.block_sequence.proofs.row_lists.append_blocks.Given as goal

abbrev pub invariant-loop-row : goal.invariant-loop-row
invariant-loop-row l = l.out.items ++ from_to l.skip l.end (flat (drop l.row-index l.rows))
    ≡ l.fn.out.items ++ from_to l.from l.to (flat l.rows)
