-- Ids that occur nowhere, and ids that occur, over all lists and in the ledger.
use Rattle.std.proofs.Common.{◌≡◌, refl, ℕ, zero, suc, ◌+◌, List, arith, Option, Some, None}
use Rattle.std.specs.Prelude.{IfSome, IfNone, ◌↔◌}
use Rattle.block_ledger.specs.Counts.{IsFirstFree, IsNextFree, IsNamed, AreNamed, occurrences}
use Rattle.block_ledger.specs.Entries.{count_of}
use Rattle.row_ledger.specs.Rows.{TableState, IsTable, counts, counted, singles, in_uses, in_rows}
use Rattle.row_ledger.proofs.Sums.{free_same, rows_most, rows_none}

pub if_some : (P Q : ℕ → Type 0) (o : Option ℕ) → ((n : ℕ) → P n → Q n) → IfSome o P → IfSome o Q
if_some P Q None f h = h
if_some P Q (Some n) f h = f n h

pub if_none : (P Q : Type 0) (o : Option ℕ) → (P → Q) → IfNone o P → IfNone o Q
if_none P Q None f h = f h
if_none P Q (Some n) f h = h

pub first_same : (t : TableState) (id : ℕ) → IsTable t → IsFirstFree (count_of t.ledger) id → IsFirstFree (counts t) id
first_same t id is first = record {
  free = (free_same t id is).0 first.free;
  least = λ other e. first.least other ((free_same t other is).1 e);
}

pub next_same : (t : TableState) (from id : ℕ) → IsTable t → IsNextFree (count_of t.ledger) from id
    → IsNextFree (counts t) from id
next_same t from id is next = record {
  free = (free_same t id is).0 next.free;
  past = next.past;
  least = λ other p e. next.least other p ((free_same t other is).1 e);
}

named_counted : (o : Option ℕ) (n : ℕ) → (occurrences o ≡ 0 → n ≡ 0) → (n ≡ 0 → occurrences o ≡ 0)
    → IsNamed (counted o n) ↔ IsNamed o
named_counted None n f b = (λ h. h, λ h. h)
named_counted (Some zero) n f b = (λ h. absurd (omega (arith, h, f refl)), λ h. absurd (omega (arith, h)))
named_counted (Some (suc m)) zero f b = (λ h. absurd (omega (arith, b refl)), λ h. absurd (omega (arith, b refl)))
named_counted (Some (suc m)) (suc n) f b = (λ h. omega arith, λ h. omega arith)

-- an id occurs exactly where the ledger has it
pub named_same : (t : TableState) (id : ℕ) → IsTable t → IsNamed (counts t id) ↔ IsNamed (count_of t.ledger id)
named_same t id is = named_counted (count_of t.ledger id) (singles t id + in_uses id t.rows)
    (λ no.
    let rows : in_rows id t.rows ≡ 0 = omega (arith, no, is.held id) in
    omega (arith, no, rows_none id t.rows rows))
    (λ no. omega (arith, no, is.held id, rows_most id t.rows is.empty))

pub all_named : (t : TableState) (ids : List ℕ) → IsTable t → AreNamed (count_of t.ledger) ids → AreNamed (counts t) ids
all_named t ids is are = record {
  rising = are.rising;
  each = λ id. (λ h. (named_same t id is).1 ((are.each id).0 h), λ h. (are.each id).1 ((named_same t id is).0 h));
}

pub named_all : (t : TableState) (ids : List ℕ) → IsTable t → AreNamed (counts t) ids → AreNamed (count_of t.ledger) ids
named_all t ids is are = record {
  rising = are.rising;
  each = λ id. (λ h. (named_same t id is).0 ((are.each id).0 h), λ h. (are.each id).1 ((named_same t id is).1 h));
}
