-- The ledger has the same ids of count 0.
use Rattle.std.proofs.Common.{◌≡◌, ℕ, Some, subst}
use Rattle.std.specs.Prelude.{IfSome, IfNone}
use Rattle.block_ledger.specs.Counts.{IsFirstFree}
use Rattle.block_ledger.specs.Entries.{count_of}
use Rattle.row_ledger.specs.Rows.{TableState, counts}
use Rattle.row_ledger.proofs.{Frees.if_some, Frees.if_none, Frees.first_same, Sums.free_same}
use Rattle.row_ledger.proofs.table.RowTable.first_free.Goals as goal

pub returns-clause-found : goal.returns-clause-found
returns-clause-found c =
    let t : TableState = record { ledger = c.self.inside.ledger; rows = c.self.inside.rows.items } in
    subst (λ (s : TableState). IfSome c.first_free.result (IsFirstFree (counts s))) c.self.view_is
    (if_some (IsFirstFree (count_of t.ledger)) (IsFirstFree (counts t)) c.first_free.result
    (λ n. first_same t n c.self.invariant) c.first_free.ensures.found)

pub returns-clause-none : goal.returns-clause-none
returns-clause-none c =
    let t : TableState = record { ledger = c.self.inside.ledger; rows = c.self.inside.rows.items } in
    subst (λ (s : TableState). IfNone c.first_free.result ((id : ℕ) → counts s id ≡ Some 0 → ⊥)) c.self.view_is
    (if_none ((id : ℕ) → count_of t.ledger id ≡ Some 0 → ⊥) ((id : ℕ) → counts t id ≡ Some 0 → ⊥) c.first_free.result
    (λ f id e. f id ((free_same t id c.self.invariant).1 e)) c.first_free.ensures.none)
