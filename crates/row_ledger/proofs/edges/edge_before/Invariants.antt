-- What the loop of `edge_before` keeps.
use Rattle.std.proofs.Common.{◌-◌, ◌≤◌, length}
use Rattle.row_ledger.specs.Rows.{IsEdge}
use Rattle.row_ledger.proofs.edges.edge_before.Given as goal

abbrev pub invariant-loop-row : goal.invariant-loop-row
invariant-loop-row l = record {
  edge : IsEdge l.table.rows l.rows l.row l.at;
  before : l.at ≤ l.place;
}

abbrev pub decreases-loop-row : goal.decreases-loop-row
decreases-loop-row l = length l.rows - l.row
