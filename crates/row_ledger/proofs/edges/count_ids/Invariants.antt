-- What the loop of `count_ids` keeps.
use Rattle.std.proofs.Common.{◌≡◌, ◌+◌, ◌≤◌, length, drop}
use Rattle.pcm_base.specs.declared.limits.TheConstants.{COUNTER_LIMIT}
use Rattle.row_ledger.specs.Rows.{flat}
use Rattle.row_ledger.proofs.edges.count_ids.Given as goal

abbrev pub invariant-loop-row : goal.invariant-loop-row
invariant-loop-row l = record {
  value : l.count + length (flat l.table.rows (drop l.row-index l.rows)) ≡ length (flat l.table.rows l.rows);
  few : l.count ≤ COUNTER_LIMIT;
}
