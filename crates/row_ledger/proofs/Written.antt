-- A table whose row at a place is written.
use Rattle.std.proofs.Common.{◌≡◌, refl, ℕ, zero, suc, ◌+◌, ◌≤◌, ◌<◌, List, [], ◌∷◌}
use Rattle.std.proofs.Common.{length, sym, ◌∙◌, ap, arith, set}
use Rattle.block_ledger.specs.Counts.{occurrences, times}
use Rattle.block_ledger.specs.Entries.{LedgerState, count_of}
use Rattle.row_ledger.specs.declared.row.Row.{Row}
use Rattle.row_ledger.specs.Rows.{in_rows, ids_at, uses_at, TableState, IsTable, Held, Comes}
use Rattle.row_ledger.proofs.Sums.{times_none}
use Rattle.row_ledger.proofs.Moves.{at_set, flip, empty_set, empty_at, ids_set, uses_set, ids_same, table_uses}
use Rattle.row_ledger.proofs.Turns.{comes_of, more_use, new_row}

-- a row has no more of an id than all rows
pub row_within : (id : ℕ) (rows : List Row) (k : ℕ) → times id (ids_at rows k) ≤ in_rows id rows
row_within id [] k = omega arith
row_within id (r ∷ rs) zero = omega arith
row_within id (r ∷ rs) (suc k) = omega (arith, row_within id rs k)

abbrev pub with_row : LedgerState → List Row → ℕ → Row → TableState
with_row ledger rows k row = record { ledger = ledger; rows = set rows k row }

-- a list lets a row go that others have
pub less_use : (t : TableState) (k : ℕ) (row : Row) → IsTable t → k < length t.rows
    → row.ids.items ≡ ids_at t.rows k → 0 < row.uses → uses_at t.rows k ≡ row.uses + 1
    → Comes (with_row t.ledger t.rows k row) t (k ∷ [])
less_use t k row is h ids some uses =
    let new = with_row t.ledger t.rows k row in
    let is_new = table_uses t k row is h ids some in
    comes_of new t k is_new is
    (more_use new t k is_new (flip t.rows (set t.rows k row) k (at_set t.rows k row h))
    (sym (ids_same t.rows k row h ids)) (uses ∙ ap (λ (u : ℕ). u + 1) (sym (uses_set t.rows k row h))) (λ id. refl))

-- the last list lets it go
pub cleared : (t : TableState) (ledger : LedgerState) (k : ℕ) (row : Row) → IsTable t → k < length t.rows
    → row.ids.items ≡ [] → Held (count_of ledger) (count_of t.ledger) (ids_at t.rows k)
    → IsTable (with_row ledger t.rows k row)
cleared t ledger k row is h none held = record {
  held = λ id. omega (
    arith,
    is.held id,
    held.counts id,
    (at_set t.rows k row h).rows id,
    times_none id (ids_at (set t.rows k row) k) (ids_set t.rows k row h ∙ none),
  );
  empty = empty_set t.rows k row is.empty (λ e. none);
}

pub last_use : (t : TableState) (ledger : LedgerState) (k : ℕ) (row : Row) → IsTable t → k < length t.rows
    → row.ids.items ≡ [] → row.uses ≡ 0 → uses_at t.rows k ≡ 1
    → Held (count_of ledger) (count_of t.ledger) (ids_at t.rows k)
    → Comes (with_row ledger t.rows k row) t (k ∷ [])
last_use t ledger k row is h none free uses held =
    let new = with_row ledger t.rows k row in
    let is_new = cleared t ledger k row is h none held in
    comes_of new t k is_new is
    (new_row new t k is_new (flip t.rows (set t.rows k row) k (at_set t.rows k row h))
    (uses_set t.rows k row h ∙ free) (ids_set t.rows k row h ∙ none) uses held)

-- a list has a new row
pub filled : (t : TableState) (ledger : LedgerState) (k : ℕ) (row : Row) → IsTable t → k < length t.rows
    → uses_at t.rows k ≡ 0 → row.uses ≡ 1 → Held (count_of t.ledger) (count_of ledger) row.ids.items
    → IsTable (with_row ledger t.rows k row)
filled t ledger k row is h free one held = record {
  held = λ id. omega (
    arith,
    is.held id,
    held.counts id,
    (at_set t.rows k row h).rows id,
    ap (times id) (ids_set t.rows k row h),
  );
  empty = empty_set t.rows k row is.empty (λ none. absurd (omega (arith, one, none)));
}

pub first_use : (t : TableState) (ledger : LedgerState) (k : ℕ) (row : Row) → IsTable t → k < length t.rows
    → uses_at t.rows k ≡ 0 → row.uses ≡ 1 → Held (count_of t.ledger) (count_of ledger) row.ids.items
    → Comes t (with_row ledger t.rows k row) (k ∷ [])
first_use t ledger k row is h free one held =
    let new = with_row ledger t.rows k row in
    comes_of t new k is (filled t ledger k row is h free one held)
    (new_row t new k is (at_set t.rows k row h) free (empty_at t.rows k is.empty free) (uses_set t.rows k row h ∙ one)
    (record {
      counts = λ id. held.counts id
          ∙ ap (λ (xs : List ℕ). occurrences (count_of t.ledger id) + times id xs) (sym (ids_set t.rows k row h));
      there = held.there;
    }))
