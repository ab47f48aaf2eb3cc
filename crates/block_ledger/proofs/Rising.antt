-- Entries whose ids rise, after an edit.
use Rattle.std.proofs.Common.{◌≡◌, ℕ, zero, suc, ◌<◌, Bool, true, false, cond, List, [], ◌∷◌, length, set, arith}
use Rattle.std.specs.List.{AllByRecursion, insert, filter}
use Rattle.block_ledger.specs.{declared.entry.Entry.Entry, Entries.id_at, Entries.IsRising, Entries.IsGap}

-- the ids are above a number
abbrev pub Above : ℕ → List Entry → Type 0
Above x es = AllByRecursion (λ f. x < f.id) es

above_at : (x : ℕ) (es : List Entry) → Above x es → (i : ℕ) → i < length es → x < id_at es i
above_at x [] all i lt = absurd (omega (arith, lt))
above_at x (e ∷ es) all zero lt = all.0
above_at x (e ∷ es) all (suc i) lt = above_at x es all.1 i (omega (arith, lt))

above_from : (x : ℕ) (es : List Entry) → ((i : ℕ) → i < length es → x < id_at es i) → Above x es
above_from x [] each = tt
above_from x (e ∷ es) each = (each 0 (omega arith), above_from x es (λ i lt. each (suc i) (omega (arith, lt))))

pub rising_at : (es : List Entry) → IsRising es → (i j : ℕ) → i < j → j < length es → id_at es i < id_at es j
rising_at [] rising i j lt within = absurd (omega (arith, within))
rising_at (e ∷ es) rising i zero lt within = absurd (omega (arith, lt))
rising_at (e ∷ es) rising zero (suc j) lt within = above_at e.id es rising.0 j (omega (arith, within))
rising_at (e ∷ es) rising (suc i) (suc j) lt within =
    rising_at es rising.1 i j (omega (arith, lt)) (omega (arith, within))

above_set : (x : ℕ) (es : List Entry) (i : ℕ) (new : Entry) → Above x es → x < new.id → Above x (set es i new)
above_set x [] i new all lt = tt
above_set x (e ∷ es) zero new all lt = (lt, all.1)
above_set x (e ∷ es) (suc i) new all lt = (all.0, above_set x es i new all.1 lt)

pub rising_set : (es : List Entry) (i : ℕ) (new : Entry) → IsRising es → i < length es → new.id ≡ id_at es i
    → IsRising (set es i new)
rising_set [] i new rising within same = tt
rising_set (e ∷ es) zero new rising within same = (rw same rising.0, rising.1)
rising_set (e ∷ es) (suc i) new rising within same =
    let le : i < length es = omega (arith, within) in
    (above_set e.id es i new rising.0 (rw same (above_at e.id es rising.0 i le)), rising_set es i new rising.1 le same)

above_insert : (x : ℕ) (es : List Entry) (i : ℕ) (new : Entry) → Above x es → x < new.id → Above x (insert es i new)
above_insert x es zero new all lt = (lt, all)
above_insert x [] (suc i) new all lt = (lt, tt)
above_insert x (e ∷ es) (suc i) new all lt = (all.0, above_insert x es i new all.1 lt)

pub gap_tail : (e : Entry) (es : List Entry) (id i : ℕ) → IsGap (e ∷ es) id (suc i) → IsGap es id i
gap_tail e es id i gap = record {
  within = omega (arith, gap.within);
  below = λ j lt. gap.below (suc j) (omega (arith, lt));
  above = λ j le lt. gap.above (suc j) (omega (arith, le)) (omega (arith, lt));
}

pub rising_insert : (es : List Entry) (i : ℕ) (new : Entry) → IsRising es → IsGap es new.id i
    → IsRising (insert es i new)
rising_insert es zero new rising gap = (above_from new.id es (λ j lt. gap.above j (omega arith) lt), rising)
rising_insert [] (suc i) new rising gap = (tt, tt)
rising_insert (e ∷ es) (suc i) new rising gap = (
  above_insert e.id es i new rising.0 (gap.below 0 (omega arith)),
  rising_insert es i new rising.1 (gap_tail e es new.id i gap),
)

above_filter : (test : Entry → Bool) (x : ℕ) (es : List Entry) → Above x es → Above x (filter test es)
above_filter test x [] all = tt
above_filter test x (e ∷ es) all = either (test e) (above_filter test x es all.1)
  where
    either : (b : Bool) → Above x (filter test es) → Above x (cond b (e ∷ filter test es) (filter test es))
    either true more = (all.0, more)
    either false more = more

pub rising_filter : (test : Entry → Bool) (es : List Entry) → IsRising es → IsRising (filter test es)
rising_filter test [] rising = tt
rising_filter test (e ∷ es) rising = either (test e) (rising_filter test es rising.1)
  where
    either : (b : Bool) → IsRising (filter test es) → IsRising (cond b (e ∷ filter test es) (filter test es))
    either true more = (above_filter test e.id es rising.0, more)
    either false more = more
