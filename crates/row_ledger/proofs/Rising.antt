-- Lists whose numbers rise, as one comes or goes.
use Rattle.std.proofs.Common.{ℕ, zero, suc, ◌<◌, List, [], ◌∷◌, length, arith}
use Rattle.std.specs.List.{AllByRecursion, insert, remove}
use Rattle.row_ledger.specs.declared.row.Listed.{Listed}
use Rattle.row_ledger.specs.Lists.{IsRising, IsGap, number_at}

-- the numbers are above one
abbrev pub Above : ℕ → List Listed → Type 0
Above n ls = AllByRecursion (λ (m : Listed). n < m.number) ls

above_at : (n : ℕ) (ls : List Listed) → Above n ls → (i : ℕ) → i < length ls → n < number_at ls i
above_at n [] all i lt = absurd (omega (arith, lt))
above_at n (l ∷ ls) all zero lt = all.0
above_at n (l ∷ ls) all (suc i) lt = above_at n ls all.1 i (omega (arith, lt))

above_from : (n : ℕ) (ls : List Listed) → ((i : ℕ) → i < length ls → n < number_at ls i) → Above n ls
above_from n [] each = tt
above_from n (l ∷ ls) each = (each 0 (omega arith), above_from n ls (λ i lt. each (suc i) (omega (arith, lt))))

pub rising_at : (ls : List Listed) → IsRising ls → (i j : ℕ) → i < j → j < length ls → number_at ls i < number_at ls j
rising_at [] rising i j lt within = absurd (omega (arith, within))
rising_at (l ∷ ls) rising i zero lt within = absurd (omega (arith, lt))
rising_at (l ∷ ls) rising zero (suc j) lt within = above_at l.number ls rising.0 j (omega (arith, within))
rising_at (l ∷ ls) rising (suc i) (suc j) lt within =
    rising_at ls rising.1 i j (omega (arith, lt)) (omega (arith, within))

above_insert : (n : ℕ) (ls : List Listed) (i : ℕ) (l : Listed) → Above n ls → n < l.number → Above n (insert ls i l)
above_insert n ls zero l all lt = (lt, all)
above_insert n [] (suc i) l all lt = (lt, tt)
above_insert n (m ∷ ls) (suc i) l all lt = (all.0, above_insert n ls i l all.1 lt)

pub gap_tail : (m : Listed) (ls : List Listed) (n i : ℕ) → IsGap (m ∷ ls) n (suc i) → IsGap ls n i
gap_tail m ls n i gap = record {
  within = omega (arith, gap.within);
  below = λ j lt. gap.below (suc j) (omega (arith, lt));
  above = λ j le lt. gap.above (suc j) (omega (arith, le)) (omega (arith, lt));
}

pub rising_insert : (ls : List Listed) (i : ℕ) (l : Listed) → IsRising ls → IsGap ls l.number i
    → IsRising (insert ls i l)
rising_insert ls zero l rising gap = (above_from l.number ls (λ j lt. gap.above j (omega arith) lt), rising)
rising_insert [] (suc i) l rising gap = (tt, tt)
rising_insert (m ∷ ls) (suc i) l rising gap = (
  above_insert m.number ls i l rising.0 (gap.below 0 (omega arith)),
  rising_insert ls i l rising.1 (gap_tail m ls l.number i gap),
)

above_remove : (n : ℕ) (ls : List Listed) (i : ℕ) → Above n ls → Above n (remove ls i)
above_remove n [] zero all = all
above_remove n [] (suc i) all = all
above_remove n (m ∷ ls) zero all = all.1
above_remove n (m ∷ ls) (suc i) all = (all.0, above_remove n ls i all.1)

pub rising_remove : (ls : List Listed) (i : ℕ) → IsRising ls → IsRising (remove ls i)
rising_remove [] zero rising = rising
rising_remove [] (suc i) rising = rising
rising_remove (m ∷ ls) zero rising = rising.1
rising_remove (m ∷ ls) (suc i) rising = (above_remove m.number ls i rising.0, rising_remove ls i rising.1)
