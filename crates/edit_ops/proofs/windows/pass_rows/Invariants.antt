-- What the loop of `pass_rows` keeps.
use Rattle.edit_ops.proofs.Common.{◌≡◌, ◌+◌, ◌-◌, ◌≤◌, length, drop}
use Rattle.pcm_base.specs.Blocks.{blocks_len}
use Rattle.block_sequence.specs.Rows.{flat, IsEdge}
use Rattle.edit_ops.proofs.windows.pass_rows.Given as goal

abbrev pub invariant-rows : goal.invariant-rows
invariant-rows l = record {
  edge : IsEdge l.rows l.at l.count;
  size : l.size + blocks_len (flat (drop l.at l.rows)) ≡ blocks_len (flat l.rows);
  past : l.size ≤ l.place;
}

abbrev pub decreases-rows : goal.decreases-rows
decreases-rows l = length l.rows - l.at
