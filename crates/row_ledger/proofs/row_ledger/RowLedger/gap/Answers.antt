-- The number has no list.
use Rattle.row_ledger.proofs.Numbers.{at_some}
use Rattle.row_ledger.proofs.row_ledger.RowLedger.gap.Goals as goal

pub returns-in-Ok : goal.returns-in-Ok
returns-in-Ok c = absurd (at_some c.args.self.now.table.rows c.args.self.now.lists c.args.number c.in-Ok.place
    c.in-Ok.ensures.found c.requires)
