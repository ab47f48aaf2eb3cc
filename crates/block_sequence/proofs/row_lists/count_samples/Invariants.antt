-- What the loop of `count_samples` keeps.
use Rattle.std.proofs.Common.{◌≡◌, ◌+◌, drop}
use Rattle.pcm_base.specs.Blocks.{blocks_len}
use Rattle.block_sequence.specs.Rows.{flat}
use Rattle.block_sequence.proofs.row_lists.count_samples.Given as goal

abbrev pub invariant-loop-row : goal.invariant-loop-row
invariant-loop-row l = l.len + blocks_len (flat (drop l.row-index l.rows)) ≡ blocks_len (flat l.rows)
