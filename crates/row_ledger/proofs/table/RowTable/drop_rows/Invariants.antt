-- What the loop of `drop_rows` keeps.
use Rattle.std.proofs.Common.{take}
use Rattle.row_ledger.specs.Rows.{Comes, HasSameRoom}
use Rattle.row_ledger.proofs.table.RowTable.drop_rows.Given as goal

abbrev pub invariant-loop-row : goal.invariant-loop-row
invariant-loop-row l = record {
  come : Comes l.self l.fn.self (take l.row-index l.rows);
  room : HasSameRoom l.fn.self.ledger l.self.ledger;
}
