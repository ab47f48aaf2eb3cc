-- Where a search by number ends.
use Rattle.std.proofs.Common.{◌≡◌, ⊎_elim, ℕ, zero, suc, ◌≤◌, ◌<◌, Result, Ok, Err, IfOk, IfErr, List, [], ◌∷◌}
use Rattle.std.proofs.Common.{length, get_or, refl, sym, ◌∙◌, ap, arith}
use Rattle.std.proofs.{lemmas.Cmp.ranked, lemmas.Bool.cases_eq, lemmas.Bool.Decides.nat_tests}
use Rattle.std.proofs.{lemmas.List.Sorted.IsNonDecreasingBy-from_default}
use Rattle.std.specs.List.Sorted.{IsSearchInRange, IsBinarySearchResult, IsNonDecreasingBy}
use Rattle.std.specs.Ordering.{nat_cmp, ordering_index}
use Rattle.row_ledger.specs.{declared.row.Listed.Listed, Lists.IsRising, Lists.IsAt, Lists.IsGap, Lists.number_at}
use Rattle.row_ledger.proofs.Rising.{rising_at}

pub number_at_is : (ls : List Listed) (i : ℕ) (d : Listed) → i < length ls → number_at ls i ≡ (get_or ls i d).number
number_at_is [] i d lt = absurd (omega (arith, lt))
number_at_is (l ∷ ls) zero d lt = refl
number_at_is (l ∷ ls) (suc i) d lt = number_at_is ls i d (omega (arith, lt))

abbrev rank : ℕ → ℕ → ℕ
rank n x = ordering_index (nat_cmp x n)

rank_rises : (n x y : ℕ) → x ≤ y → rank n x ≤ rank n y
rank_rises n x y le = grind (arith, nat_tests)

not_above : (ls : List Listed) → IsRising ls → (i j : ℕ) → i ≤ j → j < length ls → number_at ls i ≤ number_at ls j
not_above ls rising i j le lt = ⊎_elim
    (λ same. omega (arith, ap (number_at ls) same))
    (λ ne. omega (arith, rising_at ls rising i j (omega (arith, le, ne)) lt))
    (cases_eq i j)

ranks_rise : (ls : List Listed) (d : Listed) (n : ℕ) → IsRising ls → IsNonDecreasingBy (λ (l : Listed). rank n l.number) ls
ranks_rise ls d n rising = IsNonDecreasingBy-from_default (λ (l : Listed). rank n l.number) ls d (λ i j le lt.
    rank_rises n (get_or ls i d).number (get_or ls j d).number
    (omega (arith, not_above ls rising i j le lt, number_at_is ls i d (omega (arith, le, lt)), number_at_is ls j d lt)))

found_at : (ls : List Listed) (d : Listed) (n : ℕ) (r : Result ℕ ℕ) → IsSearchInRange r (length ls)
    → IsBinarySearchResult (λ (l : Listed). nat_cmp l.number n) ls r → IfOk r (IsAt ls n)
found_at ls d n (Ok i) within is =
    record { within = within; same = number_at_is ls i d within ∙ ranked _ n _ (sym (is d)) }
found_at ls d n (Err i) within is = tt

gap_at : (ls : List Listed) (d : Listed) (n : ℕ) (r : Result ℕ ℕ) → IsRising ls → IsSearchInRange r (length ls)
    → IsBinarySearchResult (λ (l : Listed). nat_cmp l.number n) ls r → IfErr r (IsGap ls n)
gap_at ls d n (Ok i) rising within is = tt
gap_at ls d n (Err i) rising within is = record {
  within = within;
  below = λ j lt. omega (
    arith,
    number_at_is ls j d (omega (arith, lt, within)),
    ranked _ n _ (sym ((is (ranks_rise ls d n rising)).0 j d (omega arith) lt)),
  );
  above = λ j le lt.
      omega (arith, number_at_is ls j d lt, ranked _ n _ (sym ((is (ranks_rise ls d n rising)).1 j d le lt)));
}

pub found : (ls : List Listed) (n : ℕ) (r : Result ℕ ℕ) → IsSearchInRange r (length ls)
    → IsBinarySearchResult (λ (l : Listed). nat_cmp l.number n) ls r → IfOk r (IsAt ls n)
found [] n (Ok i) within is = absurd (omega (arith, within))
found [] n (Err i) within is = tt
found (l ∷ ls) n r within is = found_at (l ∷ ls) l n r within is

pub gap : (ls : List Listed) (n : ℕ) (r : Result ℕ ℕ) → IsRising ls → IsSearchInRange r (length ls)
    → IsBinarySearchResult (λ (l : Listed). nat_cmp l.number n) ls r → IfErr r (IsGap ls n)
gap [] n (Ok i) rising within is = tt
gap [] n (Err i) rising within is = record {
  within = within;
  below = λ j lt. absurd (omega (arith, lt, within));
  above = λ j le lt. absurd (omega (arith, lt));
}
gap (l ∷ ls) n r rising within is = gap_at (l ∷ ls) l n r rising within is
