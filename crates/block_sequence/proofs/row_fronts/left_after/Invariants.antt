-- What the loop of `left_after` keeps.
use Rattle.std.proofs.Common.{◌≡◌, ◌≤◌, ◌++◌, [], length, drop}
use Rattle.block_sequence.specs.Rows.{flat}
use Rattle.block_sequence.proofs.row_fronts.left_after.Given as goal

abbrev pub invariant-rows : goal.invariant-rows
invariant-rows l = record {
  all : drop l.skip (l.left.blocks.now ++ flat l.left.rows.now) ≡ drop l.count (flat l.rows);
  size : l.skip ≤ length (l.left.blocks.now ++ flat l.left.rows.now);
  first : l.left.blocks.now ≡ [] → flat l.left.rows.now ≡ [];
}

abbrev pub decreases-rows : goal.decreases-rows
decreases-rows l = l.skip
