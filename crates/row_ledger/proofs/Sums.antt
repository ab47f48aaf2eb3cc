-- Sums over rows: each row once, and as often as lists have it.
use Rattle.std.proofs.Common.{◌≡◌, refl, ℕ, zero, suc, ◌+◌, ◌*◌, ◌≤◌, List, [], ◌∷◌}
use Rattle.std.proofs.Common.{◌++◌, sym, ap, arith, Option, Some, None}
use Rattle.std.specs.Prelude.{IsSome, ◌↔◌}
use Rattle.block_ledger.specs.Counts.{occurrences, times}
use Rattle.block_ledger.specs.Entries.{count_of}
use Rattle.row_ledger.specs.declared.row.Row.{Row}
use Rattle.row_ledger.specs.Rows.{in_rows, in_uses, AreEmpty, TableState, IsTable, counts, counted}
use Rattle.row_ledger.specs.Rows.{singles}

pub times_append : (id : ℕ) (xs ys : List ℕ) → times id (xs ++ ys) ≡ times id xs + times id ys
times_append id [] ys = omega arith
times_append id (x ∷ xs) ys = omega (arith, times_append id xs ys)

pub times_none : (id : ℕ) (xs : List ℕ) → xs ≡ [] → times id xs ≡ 0
times_none id xs e = ap (times id) e

-- a row that is had has its ids once at least
weighed_most : (u : ℕ) (id : ℕ) (xs : List ℕ) → (u ≡ 0 → xs ≡ []) → times id xs ≤ u * times id xs
weighed_most zero id xs h = omega (arith, times_none id xs (h refl))
weighed_most (suc u) id xs h = omega arith

weighed_none : (u n : ℕ) → n ≡ 0 → u * n ≡ 0
weighed_none zero n e = omega arith
weighed_none (suc u) n e = omega (arith, e, weighed_none u n e)

-- each row once is not more than as often as lists have it
pub rows_most : (id : ℕ) (rows : List Row) → AreEmpty rows → in_rows id rows ≤ in_uses id rows
rows_most id [] h = omega arith
rows_most id (r ∷ rs) h = omega (arith, weighed_most r.uses id r.ids.items h.0, rows_most id rs h.1)

-- and none where there is none
pub rows_none : (id : ℕ) (rows : List Row) → in_rows id rows ≡ 0 → in_uses id rows ≡ 0
rows_none id [] h = refl
rows_none id (r ∷ rs) h =
    let here : times id r.ids.items ≡ 0 = omega (arith, h) in
    let more : in_rows id rs ≡ 0 = omega (arith, h) in
    omega (arith, weighed_none r.uses (times id r.ids.items) here, rows_none id rs more)

counted_occurs : (o : Option ℕ) (n : ℕ) → (o ≡ None → n ≡ 0) → occurrences (counted o n) ≡ n
counted_occurs None n h = sym (h refl)
counted_occurs (Some m) n h = refl

counted_some : (o : Option ℕ) (n : ℕ) → IsSome (counted o n) ↔ IsSome o
counted_some None n = (λ h. h, λ h. h)
counted_some (Some m) n = (λ h. refl, λ h. refl)

-- the ids that are there are those of the ledger
pub there_same : (t : TableState) (id : ℕ) → IsSome (counts t id) ↔ IsSome (count_of t.ledger id)
there_same t id = counted_some (count_of t.ledger id) (singles t id + in_uses id t.rows)

none_occurs : (o : Option ℕ) → o ≡ None → occurrences o ≡ 0
none_occurs o e = ap occurrences e

-- the count of an id: held by itself, and in lists
pub count_is : (t : TableState) (id : ℕ) → IsTable t → occurrences (counts t id) ≡ singles t id + in_uses id t.rows
count_is t id is = counted_occurs (count_of t.ledger id) (singles t id + in_uses id t.rows) (λ none.
    let no : occurrences (count_of t.ledger id) ≡ 0 = none_occurs (count_of t.ledger id) none in
    let rows : in_rows id t.rows ≡ 0 = omega (arith, no, is.held id) in
    omega (arith, no, rows_none id t.rows rows))

-- the ledger counts no more than that
pub ledger_most : (t : TableState) (id : ℕ) → IsTable t → occurrences (count_of t.ledger id) ≤ occurrences (counts t id)
ledger_most t id is = omega (arith, count_is t id is, is.held id, rows_most id t.rows is.empty)

some_zero : (o : Option ℕ) (n : ℕ) → (occurrences o ≡ 0 → n ≡ 0) → o ≡ Some 0 → counted o n ≡ Some 0
some_zero None n h e = cc
some_zero (Some m) n h e = ap Some (h (ap occurrences e))

zero_some : (o : Option ℕ) (n : ℕ) → (n ≡ 0 → occurrences o ≡ 0) → counted o n ≡ Some 0 → o ≡ Some 0
zero_some None n h e = cc
zero_some (Some m) n h e = ap Some (h (ap occurrences e))

-- an id that is there occurs nowhere exactly where the ledger has no occurrence of it
pub free_same : (t : TableState) (id : ℕ) → IsTable t → (count_of t.ledger id ≡ Some 0) ↔ (counts t id ≡ Some 0)
free_same t id is = (
  some_zero (count_of t.ledger id) (singles t id + in_uses id t.rows) (λ no.
      let rows : in_rows id t.rows ≡ 0 = omega (arith, no, is.held id) in
      omega (arith, no, rows_none id t.rows rows)),
  zero_some (count_of t.ledger id) (singles t id + in_uses id t.rows) (λ no.
      omega (arith, no, is.held id, rows_most id t.rows is.empty)),
)
