-- What the loop of `front_of` keeps.
use Rattle.std.proofs.Common.{◌≡◌, ◌-◌, ◌≤◌, ◌++◌, length, take}
use Rattle.row_ledger.specs.Rows.{flat}
use Rattle.row_ledger.proofs.edges.front_of.Given as goal

abbrev pub invariant-loop-row : goal.invariant-loop-row
invariant-loop-row l = record {
  within : l.row ≤ length l.rows;
  same : l.ids ≡ flat l.table.rows (take l.row l.rows) ++ l.rest;
}

abbrev pub decreases-loop-row : goal.decreases-loop-row
decreases-loop-row l = length l.rows - l.row
