use Rattle.std.proofs.Common.{◌∙◌}
use Rattle.row_ledger.proofs.Numbers.{has_one}
use Rattle.row_ledger.proofs.row_ledger.RowLedger.has_list.Goals as goal

pub returns : goal.returns
returns c = c.is_ok.ensures.value ∙ has_one c.args.self.now.table.rows c.args.self.now.lists c.args.number c.position.result
    c.position.ensures.found c.position.ensures.none
