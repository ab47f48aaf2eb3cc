-- The ledger has the same ids that occur.
use Rattle.std.proofs.Common.{subst, sym}
use Rattle.block_ledger.specs.Counts.{AreNamed}
use Rattle.row_ledger.specs.Rows.{TableState, counts}
use Rattle.row_ledger.proofs.Frees.{all_named, named_all}
use Rattle.row_ledger.proofs.table.RowTable.named_len.Goals as goal

pub returns-clause-ids : goal.returns-clause-ids
returns-clause-ids c =
    let t : TableState = record { ledger = c.self.inside.ledger; rows = c.self.inside.rows.items } in
    let some = c.named_len.ensures.ids in (
      some.0,
      subst (λ (s : TableState). AreNamed (counts s) some.0) c.self.view_is
          (all_named t some.0 c.self.invariant some.1),
      some.2,
    )

pub returns-clause-any : goal.returns-clause-any
returns-clause-any c = λ ids are.
    let t : TableState = record { ledger = c.self.inside.ledger; rows = c.self.inside.rows.items } in
    c.named_len.ensures.any ids (named_all t ids c.self.invariant
    (subst (λ (s : TableState). AreNamed (counts s) ids) (sym c.self.view_is) are))
