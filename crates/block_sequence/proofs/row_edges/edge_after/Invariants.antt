-- What the loop of `edge_after` keeps.
use Rattle.std.proofs.Common.{◌-◌, length}
use Rattle.block_sequence.specs.Rows.{IsEdge}
use Rattle.block_sequence.proofs.row_edges.edge_after.Given as goal

abbrev pub invariant-loop-at : goal.invariant-loop-at
invariant-loop-at l = IsEdge l.rows l.row l.at

abbrev pub decreases-loop-at : goal.decreases-loop-at
decreases-loop-at l = length l.rows - l.row
