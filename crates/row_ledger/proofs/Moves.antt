-- A table before and after one of its rows changed.
use Rattle.std.proofs.Common.{◌≡◌, ◌≢◌, refl, ℕ, zero, suc, ◌+◌, ◌*◌, ◌≤◌, ◌<◌, List, [], ◌∷◌}
use Rattle.std.proofs.Common.{length, sym, ◌∙◌, ap, arith, set, get_or}
use Rattle.block_ledger.specs.Counts.{times}
use Rattle.row_ledger.specs.declared.row.Row.{Row}
use Rattle.row_ledger.specs.Rows.{in_rows, in_uses, ids_at, uses_at, AreEmpty, TableState, IsTable}

-- only the row at one place differs
pub record At (old new : List Row) (k : ℕ) : Type 0 where
  pub rows : (id : ℕ) → in_rows id new + times id (ids_at old k) ≡ in_rows id old + times id (ids_at new k)
  pub uses : (id : ℕ) → in_uses id new + uses_at old k * times id (ids_at old k)
      ≡ in_uses id old + uses_at new k * times id (ids_at new k)
  pub other_ids : (j : ℕ) → j ≢ k → ids_at new j ≡ ids_at old j
  pub other_uses : (j : ℕ) → j ≢ k → uses_at new j ≡ uses_at old j

pub flip : (old new : List Row) (k : ℕ) → At old new k → At new old k
flip old new k at = record {
  rows = λ id. sym (at.rows id);
  uses = λ id. sym (at.uses id);
  other_ids = λ j ne. sym (at.other_ids j ne);
  other_uses = λ j ne. sym (at.other_uses j ne);
}

pub ids_set : (rows : List Row) (k : ℕ) (new : Row) → k < length rows → ids_at (set rows k new) k ≡ new.ids.items
ids_set [] k new h = absurd (omega (arith, h))
ids_set (r ∷ rs) zero new h = refl
ids_set (r ∷ rs) (suc k) new h = ids_set rs k new (omega (arith, h))

pub uses_set : (rows : List Row) (k : ℕ) (new : Row) → k < length rows → uses_at (set rows k new) k ≡ new.uses
uses_set [] k new h = absurd (omega (arith, h))
uses_set (r ∷ rs) zero new h = refl
uses_set (r ∷ rs) (suc k) new h = uses_set rs k new (omega (arith, h))

ids_other : (rows : List Row) (k j : ℕ) (new : Row) → j ≢ k → ids_at (set rows k new) j ≡ ids_at rows j
ids_other [] k j new ne = refl
ids_other (r ∷ rs) zero zero new ne = absurd (ne refl)
ids_other (r ∷ rs) zero (suc j) new ne = refl
ids_other (r ∷ rs) (suc k) zero new ne = refl
ids_other (r ∷ rs) (suc k) (suc j) new ne = ids_other rs k j new (λ e. ne (ap suc e))

uses_other : (rows : List Row) (k j : ℕ) (new : Row) → j ≢ k → uses_at (set rows k new) j ≡ uses_at rows j
uses_other [] k j new ne = refl
uses_other (r ∷ rs) zero zero new ne = absurd (ne refl)
uses_other (r ∷ rs) zero (suc j) new ne = refl
uses_other (r ∷ rs) (suc k) zero new ne = refl
uses_other (r ∷ rs) (suc k) (suc j) new ne = uses_other rs k j new (λ e. ne (ap suc e))

rows_set : (id : ℕ) (rows : List Row) (k : ℕ) (new : Row) → k < length rows
    → in_rows id (set rows k new) + times id (ids_at rows k) ≡ in_rows id rows + times id new.ids.items
rows_set id [] k new h = absurd (omega (arith, h))
rows_set id (r ∷ rs) zero new h = omega arith
rows_set id (r ∷ rs) (suc k) new h = omega (arith, rows_set id rs k new (omega (arith, h)))

sum_uses : (id : ℕ) (rows : List Row) (k : ℕ) (new : Row) → k < length rows
    → in_uses id (set rows k new) + uses_at rows k * times id (ids_at rows k)
    ≡ in_uses id rows + new.uses * times id new.ids.items
sum_uses id [] k new h = absurd (omega (arith, h))
sum_uses id (r ∷ rs) zero new h = omega arith
sum_uses id (r ∷ rs) (suc k) new h = omega (arith, sum_uses id rs k new (omega (arith, h)))

-- a row that is written
pub at_set : (rows : List Row) (k : ℕ) (new : Row) → k < length rows → At rows (set rows k new) k
at_set rows k new h = record {
  rows = λ id. rows_set id rows k new h ∙ ap (λ (xs : List ℕ). in_rows id rows + times id xs) (sym (ids_set rows k new h));
  uses = λ id. sum_uses id rows k new h
      ∙ ap (λ (xs : List ℕ). in_uses id rows + new.uses * times id xs) (sym (ids_set rows k new h))
      ∙ ap (λ (u : ℕ). in_uses id rows + u * times id (ids_at (set rows k new) k)) (sym (uses_set rows k new h));
  other_ids = λ j ne. ids_other rows k j new ne;
  other_uses = λ j ne. uses_other rows k j new ne;
}

pub empty_set : (rows : List Row) (k : ℕ) (new : Row) → AreEmpty rows → (new.uses ≡ 0 → new.ids.items ≡ [])
    → AreEmpty (set rows k new)
empty_set [] k new h n = h
empty_set (r ∷ rs) zero new h n = (n, h.1)
empty_set (r ∷ rs) (suc k) new h n = (h.0, empty_set rs k new h.1 n)

pub empty_at : (rows : List Row) (k : ℕ) → AreEmpty rows → uses_at rows k ≡ 0 → ids_at rows k ≡ []
empty_at [] k h e = refl
empty_at (r ∷ rs) zero h e = h.0 e
empty_at (r ∷ rs) (suc k) h e = empty_at rs k h.1 e

pub used_within : (rows : List Row) (k : ℕ) → 0 < uses_at rows k → k < length rows
used_within [] k h = absurd (omega (arith, h))
used_within (r ∷ rs) zero h = omega arith
used_within (r ∷ rs) (suc k) h = omega (arith, used_within rs k h)

pub ids_read : (rows : List Row) (k : ℕ) (d : Row) → k < length rows → ids_at rows k ≡ (get_or rows k d).ids.items
ids_read [] k d h = absurd (omega (arith, h))
ids_read (r ∷ rs) zero d h = refl
ids_read (r ∷ rs) (suc k) d h = ids_read rs k d (omega (arith, h))

pub ids_beyond : (rows : List Row) (k : ℕ) → length rows ≤ k → ids_at rows k ≡ []
ids_beyond [] k h = refl
ids_beyond (r ∷ rs) zero h = absurd (omega (arith, h))
ids_beyond (r ∷ rs) (suc k) h = ids_beyond rs k (omega (arith, h))

pub uses_read : (rows : List Row) (k : ℕ) (d : Row) → k < length rows → uses_at rows k ≡ (get_or rows k d).uses
uses_read [] k d h = absurd (omega (arith, h))
uses_read (r ∷ rs) zero d h = refl
uses_read (r ∷ rs) (suc k) d h = uses_read rs k d (omega (arith, h))

pub ids_same : (rows : List Row) (k : ℕ) (row : Row) → k < length rows → row.ids.items ≡ ids_at rows k
    → ids_at (set rows k row) k ≡ ids_at rows k
ids_same rows k row h e = ids_set rows k row h ∙ e

-- the same ids, so each id comes in rows as often
pub rows_same : (rows : List Row) (k : ℕ) (row : Row) (id : ℕ) → k < length rows → row.ids.items ≡ ids_at rows k
    → in_rows id (set rows k row) ≡ in_rows id rows
rows_same rows k row id h e =
    let at = (at_set rows k row h).rows id in
    omega (arith, at, ap (times id) (ids_same rows k row h e))

-- a row that is had, with the same ids
pub table_uses : (t : TableState) (k : ℕ) (row : Row) → IsTable t → k < length t.rows
    → row.ids.items ≡ ids_at t.rows k → 0 < row.uses
    → IsTable (record { ledger = t.ledger; rows = set t.rows k row })
table_uses t k row is h e some = record {
  held = λ id. omega (arith, is.held id, rows_same t.rows k row id h e);
  empty = empty_set t.rows k row is.empty (λ none. absurd (omega (arith, some, none)));
}
