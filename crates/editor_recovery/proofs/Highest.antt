-- The highest of the files that were listed.
use Rattle.editor_recovery.proofs.Common.{◌≡◌, ℕ, ◌+◌, ◌-◌, ◌<◌, ◌≤◌, Bool, true, false, inl, inr, ⊎_elim, ◌⊎◌, List}
use Rattle.editor_recovery.proofs.Common.{length, get_or, Some, None, refl, ap, ◌∙◌, arith, cases_Bool, leb-true}
use Rattle.editor_recovery.proofs.Common.{leb-false, ltb-true, ltb-false, AllPairs-from_increasing, slice_get_within}
use Rattle.editor_recovery.proofs.Common.{slice_get-get_or, Contains, find, slice_get, nat_le, nat_lt, ◌||◌}
use Rattle.editor_recovery.proofs.Common.{IsStrictlyIncreasing, COUNTER_LIMIT, FIRST_BLOCK, is_foreign, IsAbove}
use Rattle.std.proofs.Common.{max}
use Rattle.std.proofs.lemmas.Option.{get_or_from_slice_get}
use Rattle.editor_recovery.proofs.Listed.{find_none}

-- no file that was listed is foreign
or_true : (x : Bool) → (x || true) ≡ true
or_true true = refl
or_true false = refl

high_foreign : (o : ℕ) → nat_le COUNTER_LIMIT o ≡ true → is_foreign o ≡ true
high_foreign o high = rw high (or_true _)

pub listed_small : (xs : List ℕ) (o : ℕ) → find is_foreign xs ≡ None → Contains xs o → o < COUNTER_LIMIT
listed_small xs o none has = elim (cases_Bool (nat_le COUNTER_LIMIT o))
    [ inl t ↦ absurd (find_none is_foreign xs none o has (high_foreign o t)) | inr f ↦ leb-false COUNTER_LIMIT o f ]

low_foreign : (o : ℕ) → nat_le 2 o ≡ true → nat_lt o FIRST_BLOCK ≡ true → is_foreign o ≡ true
low_foreign o least most = rw least (rw most refl)

pub listed_high : (xs : List ℕ) (o : ℕ) → find is_foreign xs ≡ None → Contains xs o → 2 ≤ o → FIRST_BLOCK ≤ o
listed_high xs o none has other = elim (cases_Bool (nat_le 2 o)) [
  | inr f ↦ let lt = leb-false 2 o f in absurd (omega (arith, lt, other))
  | inl t ↦ elim (cases_Bool (nat_lt o FIRST_BLOCK)) [
    | inl u ↦ absurd (find_none is_foreign xs none o has (low_foreign o t u))
    | inr g ↦ ltb-false o FIRST_BLOCK g
  ]
]

pub contains_get : (xs : List ℕ) (k x : ℕ) → slice_get xs k ≡ Some x → Contains xs x
contains_get xs k x e = (k, slice_get_within xs k x e, get_or_from_slice_get xs k x x e)

pub at_default : (xs : List ℕ) (k : ℕ) → k < length xs → (x : ℕ) → get_or xs k x ≡ x → get_or xs k 0 ≡ x
at_default xs k lt x e = get_or_from_slice_get xs k x 0 (slice_get-get_or xs k x lt ∙ ap (λ (n : ℕ). Some n) e)

-- the last of rising numbers is the greatest
pub last_in : (xs : List ℕ) → 0 < length xs → Contains xs (get_or xs (length xs - 1) 0)
last_in xs some = contains_get xs (length xs - 1) (get_or xs (length xs - 1) 0)
    (slice_get-get_or xs (length xs - 1) 0 (omega (arith, some)))

before_last : (k n : ℕ) → k < n → (k < n - 1) ⊎ (k ≡ n - 1)
before_last k n lt = elim (cases_Bool (nat_lt k (n - 1)))
    [ inl t ↦ inl (ltb-true k (n - 1) t) | inr f ↦ inr (let ge = ltb-false k (n - 1) f in omega (arith, ge, lt)) ]

either : (a b : ℕ) → (a ≤ b) ⊎ (b < a)
either a b = elim (cases_Bool (nat_le a b)) [ inl t ↦ inl (leb-true a b t) | inr f ↦ inr (leb-false a b f) ]

last_most : (xs : List ℕ) → IsStrictlyIncreasing xs → (o : ℕ) → Contains xs o → o ≤ get_or xs (length xs - 1) 0
last_most xs up o has =
    let pairs = AllPairs-from_increasing xs up in
    let same : get_or xs has.0 0 ≡ o = at_default xs has.0 has.1 o has.2 in
    ⊎_elim (λ lt. let p = pairs has.0 (length xs - 1) 0 lt (omega (arith, has.1)) in omega (arith, p, same))
    (λ eq. let e = ap (λ (k : ℕ). get_or xs k 0) eq in omega (arith, same, e)) (before_last has.0 (length xs) has.1)

pub last_above : (xs : List ℕ) (recorded next : ℕ) → 0 < length xs → IsStrictlyIncreasing xs
    → next ≡ max recorded (get_or xs (length xs - 1) 0 + 1) → IsAbove xs recorded next
last_above xs recorded next some up is =
    let file = get_or xs (length xs - 1) 0 in
    record {
      no_lower = omega (arith, is);
      above = λ o has. let le = last_most xs up o has in omega (arith, le, is);
      least = ⊎_elim (λ le. inl (omega (arith, le, is))) (λ lt. inr (file, last_in xs some, omega (arith, lt, is)))
          (either (file + 1) recorded);
    }
