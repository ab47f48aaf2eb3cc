-- The table says so.
use Rattle.std.proofs.Common.{subst}
use Rattle.std.specs.Prelude.{◌↔◌, IsTrue}
use Rattle.block_ledger.specs.Counts.{IsNamed}
use Rattle.row_ledger.specs.Lists.{RowsState, counts_of}
use Rattle.row_ledger.proofs.row_ledger.RowLedger.is_named.Goals as goal

pub returns : goal.returns
returns c = subst (λ (s : RowsState). IsTrue c.is_named.result ↔ IsNamed (counts_of s c.args.id)) c.self.view_is
    c.is_named.ensures
