-- What the loop of `common_count` keeps.
use Rattle.std.proofs.Common.{◌≡◌, ◌+◌, ◌≤◌, ◌++◌, [], length}
use Rattle.block_sequence.specs.{Fronts.common, Rows.flat}
use Rattle.block_sequence.proofs.row_fronts.common_count.Given as goal

abbrev pub invariant-rows : goal.invariant-rows
invariant-rows l = record {
  all : l.count + common (l.left.blocks.now ++ flat l.left.rows.now) (l.other.blocks.now ++ flat l.other.rows.now)
      ≡ common (flat l.a) (flat l.b);
  same : l.same ≡ common l.left.blocks.now l.other.blocks.now;
  a : l.same ≤ length l.left.blocks.now;
  b : l.same ≤ length l.other.blocks.now;
  size : l.count + length (l.left.blocks.now ++ flat l.left.rows.now) ≤ length (flat l.a);
  first : l.left.blocks.now ≡ [] → flat l.left.rows.now ≡ [];
  other_first : l.other.blocks.now ≡ [] → flat l.other.rows.now ≡ [];
}

abbrev pub decreases-rows : goal.decreases-rows
decreases-rows l = length (l.left.blocks.now ++ flat l.left.rows.now)
