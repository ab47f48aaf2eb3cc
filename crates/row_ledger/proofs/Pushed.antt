-- A free place at the end of a table.
use Rattle.std.proofs.Common.{◌≡◌, refl, ℕ, zero, suc, ◌+◌, ◌*◌, List, [], ◌∷◌, ◌++◌, length, ◌∙◌, ap, arith}
use Rattle.block_ledger.specs.Counts.{times}
use Rattle.row_ledger.specs.declared.row.Row.{Row}
use Rattle.row_ledger.specs.Rows.{in_rows, in_uses, ids_at, uses_at, TableState, IsTable, AreEmpty, Comes}
use Rattle.row_ledger.proofs.Sums.{times_none, count_is, there_same}

abbrev pub pushed : TableState → Row → TableState
pushed t row = record { ledger = t.ledger; rows = t.rows ++ row ∷ [] }

ids_push : (rows : List Row) (row : Row) (k : ℕ) → row.ids.items ≡ [] → ids_at (rows ++ row ∷ []) k ≡ ids_at rows k
ids_push [] row zero none = none
ids_push [] row (suc k) none = refl
ids_push (r ∷ rs) row zero none = refl
ids_push (r ∷ rs) row (suc k) none = ids_push rs row k none

uses_push : (rows : List Row) (row : Row) (k : ℕ) → row.uses ≡ 0 → uses_at (rows ++ row ∷ []) k ≡ uses_at rows k
uses_push [] row zero none = none
uses_push [] row (suc k) none = refl
uses_push (r ∷ rs) row zero none = refl
uses_push (r ∷ rs) row (suc k) none = uses_push rs row k none

pub uses_end : (rows : List Row) (row : Row) → uses_at (rows ++ row ∷ []) (length rows) ≡ row.uses
uses_end [] row = refl
uses_end (r ∷ rs) row = uses_end rs row

rows_push : (id : ℕ) (rows : List Row) (row : Row) → row.ids.items ≡ [] → in_rows id (rows ++ row ∷ []) ≡ in_rows id rows
rows_push id [] row none = omega (arith, times_none id row.ids.items none)
rows_push id (r ∷ rs) row none = omega (arith, rows_push id rs row none)

sum_push : (id : ℕ) (rows : List Row) (row : Row) → row.uses ≡ 0 → in_uses id (rows ++ row ∷ []) ≡ in_uses id rows
sum_push id [] row none = ap (λ (u : ℕ). u * times id row.ids.items + 0) none ∙ omega arith
sum_push id (r ∷ rs) row none = omega (arith, sum_push id rs row none)

empty_push : (rows : List Row) (row : Row) → AreEmpty rows → row.ids.items ≡ [] → AreEmpty (rows ++ row ∷ [])
empty_push [] row all none = ((λ e. none), all)
empty_push (r ∷ rs) row all none = (all.0, empty_push rs row all.1 none)

pub is_pushed : (t : TableState) (row : Row) → IsTable t → row.ids.items ≡ [] → IsTable (pushed t row)
is_pushed t row is none = record {
  held = λ id. omega (arith, is.held id, rows_push id t.rows row none);
  empty = empty_push t.rows row is.empty none;
}

pub comes_pushed : (t : TableState) (row : Row) → IsTable t → row.ids.items ≡ [] → row.uses ≡ 0 → Comes t (pushed t row) []
comes_pushed t row is none free =
    let new = pushed t row in
    let is_new = is_pushed t row is none in
    record {
      held = record {
        counts = λ id. omega (
          arith,
          count_is t id is,
          count_is new id is_new,
          rows_push id t.rows row none,
          sum_push id t.rows row free,
        );
        there = λ id. (
          λ s. (there_same t id).1 ((there_same new id).0 s),
          λ s. (there_same new id).1 ((there_same t id).0 s),
        );
      };
      singles = λ id. omega (arith, rows_push id t.rows row none);
      uses = λ k. omega (arith, uses_push t.rows row k free);
      rows = λ k used. ids_push t.rows row k none;
    }
