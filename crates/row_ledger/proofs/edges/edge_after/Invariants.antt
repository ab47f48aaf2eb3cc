-- What the loop of `edge_after` keeps.
use Rattle.std.proofs.Common.{◌-◌, length}
use Rattle.row_ledger.specs.Rows.{IsEdge}
use Rattle.row_ledger.proofs.edges.edge_after.Given as goal

abbrev pub invariant-loop-at : goal.invariant-loop-at
invariant-loop-at l = IsEdge l.table.rows l.rows l.row l.at

abbrev pub decreases-loop-at : goal.decreases-loop-at
decreases-loop-at l = length l.rows - l.row
