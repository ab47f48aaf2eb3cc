-- What the loop of `end_of` keeps.
use Rattle.std.proofs.Common.{◌≡◌, ◌≤◌, ◌++◌, length, drop}
use Rattle.row_ledger.specs.Rows.{flat}
use Rattle.row_ledger.proofs.edges.end_of.Given as goal

abbrev pub invariant-loop-row : goal.invariant-loop-row
invariant-loop-row l = record {
  within : l.row ≤ length l.rows;
  same : l.ids ≡ l.rest ++ flat l.table.rows (drop l.row l.rows);
}

abbrev pub decreases-loop-row : goal.decreases-loop-row
decreases-loop-row l = l.row
