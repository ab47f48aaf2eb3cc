-- The ledger has the same ids of count 0.
use Rattle.std.proofs.Common.{◌≡◌, ℕ, Some, subst}
use Rattle.std.specs.Prelude.{IfSome, IfNone}
use Rattle.block_ledger.specs.Counts.{IsNextFree}
use Rattle.block_ledger.specs.Entries.{count_of}
use Rattle.row_ledger.specs.Rows.{TableState, counts}
use Rattle.std.proofs.Common.{◌≤◌}
use Rattle.row_ledger.proofs.{Frees.if_some, Frees.if_none, Frees.next_same, Sums.free_same}
use Rattle.row_ledger.proofs.table.RowTable.next_free.Goals as goal

pub returns-clause-found : goal.returns-clause-found
returns-clause-found c =
    let t : TableState = record { ledger = c.self.inside.ledger; rows = c.self.inside.rows.items } in
    subst (λ (s : TableState). IfSome c.next_free.result (IsNextFree (counts s) c.args.from)) c.self.view_is
    (if_some (IsNextFree (count_of t.ledger) c.args.from) (IsNextFree (counts t) c.args.from) c.next_free.result
    (λ n. next_same t c.args.from n c.self.invariant) c.next_free.ensures.found)

pub returns-clause-none : goal.returns-clause-none
returns-clause-none c =
    let t : TableState = record { ledger = c.self.inside.ledger; rows = c.self.inside.rows.items } in
    subst (λ (s : TableState). IfNone c.next_free.result ((id : ℕ) → c.args.from ≤ id → counts s id ≡ Some 0 → ⊥))
    c.self.view_is
    (if_none ((id : ℕ) → c.args.from ≤ id → count_of t.ledger id ≡ Some 0 → ⊥)
    ((id : ℕ) → c.args.from ≤ id → counts t id ≡ Some 0 → ⊥) c.next_free.result
    (λ f id p e. f id p ((free_same t id c.self.invariant).1 e)) c.next_free.ensures.none)
