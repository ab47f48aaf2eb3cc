-- The ids of rows that lists have are there.
use Rattle.std.proofs.Common.{subst}
use Rattle.row_ledger.specs.Rows.{TableState, AreRowsThere}
use Rattle.row_ledger.proofs.Singles.{rows_there}
use Rattle.row_ledger.proofs.table.RowTable.alloc.Goals as goal

pub returns : goal.returns
returns c =
    let t : TableState = record { ledger = c.self.inside.ledger; rows = c.self.inside.rows.items } in
    record { there = subst AreRowsThere c.self.view_is (rows_there t c.self.invariant) }
