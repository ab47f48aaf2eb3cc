-- What the loop of `share` keeps.
use Rattle.std.proofs.Common.{take}
use Rattle.row_ledger.specs.Rows.{HasSameRoom, Laid, flat}
use Rattle.row_ledger.proofs.laying.share.Given as goal

abbrev pub invariant-loop-row : goal.invariant-loop-row
invariant-loop-row l = record {
  laid : Laid l.fn.table l.table l.fn.out.items l.out.items (flat l.fn.table.rows (take l.row-index l.rows));
  room : HasSameRoom l.fn.table.ledger l.table.ledger;
}
