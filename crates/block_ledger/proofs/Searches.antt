-- Where a binary search ends.
use Rattle.std.proofs.Common.{◌≡◌, ⊎_elim, ℕ, zero, suc, ◌≤◌, ◌<◌, None, Result, Ok, Err, IfOk, IfErr, List, [], ◌∷◌}
use Rattle.std.proofs.Common.{length, get_or, refl, sym, ◌∙◌, ap, arith}
use Rattle.std.proofs.{lemmas.Cmp.ranked, lemmas.Bool.cases_eq, lemmas.Bool.Decides.nat_tests}
use Rattle.std.proofs.{lemmas.List.Sorted.IsNonDecreasingBy-from_default}
use Rattle.std.specs.List.Sorted.{IsSearchInRange, IsBinarySearchResult, IsNonDecreasingBy}
use Rattle.std.specs.Ordering.{nat_cmp, ordering_index}
use Rattle.block_ledger.specs.{declared.entry.Entry.Entry, Entries.id_at, Entries.IsRising, Entries.IsAt, Entries.IsGap}
use Rattle.block_ledger.proofs.Rising.{rising_at}

-- the entry beyond the last
abbrev pub no_entry : Entry
no_entry = record { id = 0; count = None }

pub id_at_is : (es : List Entry) (i : ℕ) → id_at es i ≡ (get_or es i no_entry).id
id_at_is [] i = refl
id_at_is (e ∷ es) zero = refl
id_at_is (e ∷ es) (suc i) = id_at_is es i

abbrev rank : ℕ → ℕ → ℕ
rank id x = ordering_index (nat_cmp x id)

rank_rises : (id x y : ℕ) → x ≤ y → rank id x ≤ rank id y
rank_rises id x y le = grind (arith, nat_tests)

not_above : (es : List Entry) → IsRising es → (i j : ℕ) → i ≤ j → j < length es → id_at es i ≤ id_at es j
not_above es rising i j le lt = ⊎_elim
    (λ same. omega (arith, ap (id_at es) same))
    (λ ne. omega (arith, rising_at es rising i j (omega (arith, le, ne)) lt))
    (cases_eq i j)

ranks_rise : (es : List Entry) (id : ℕ) → IsRising es → IsNonDecreasingBy (λ (e : Entry). rank id e.id) es
ranks_rise es id rising = IsNonDecreasingBy-from_default (λ (e : Entry). rank id e.id) es no_entry (λ i j le lt.
    rank_rises id (get_or es i no_entry).id (get_or es j no_entry).id
    (omega (arith, not_above es rising i j le lt, id_at_is es i, id_at_is es j)))

pub found_at : (es : List Entry) (id : ℕ) (r : Result ℕ ℕ) → IsSearchInRange r (length es)
    → IsBinarySearchResult (λ (e : Entry). nat_cmp e.id id) es r → IfOk r (IsAt es id)
found_at es id (Ok i) within is = record { within = within; same = id_at_is es i ∙ ranked _ id _ (sym (is no_entry)) }
found_at es id (Err i) within is = tt

pub gap_at : (es : List Entry) (id : ℕ) (r : Result ℕ ℕ) → IsRising es → IsSearchInRange r (length es)
    → IsBinarySearchResult (λ (e : Entry). nat_cmp e.id id) es r → IfErr r (IsGap es id)
gap_at es id (Ok i) rising within is = tt
gap_at es id (Err i) rising within is = record {
  within = within;
  below = λ j lt.
      omega (arith, id_at_is es j, ranked _ id _ (sym ((is (ranks_rise es id rising)).0 j no_entry (omega arith) lt)));
  above =
      λ j le lt. omega (arith, id_at_is es j, ranked _ id _ (sym ((is (ranks_rise es id rising)).1 j no_entry le lt)));
}
