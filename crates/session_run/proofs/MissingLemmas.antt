-- How many ids are not counted: each id that goes is one more.
use Rattle.session_run.proofs.Common.{◌≡◌, ⊎_elim, refl, sym, ap, subst, ℕ, suc, ◌+◌, ◌<◌, ◌≤◌, List, [], ◌∷◌, length}
use Rattle.session_run.proofs.Common.{Option, Some, None, IsSome, arith, true≢false, Contains, IsStrictlyIncreasing}
use Rattle.std.proofs.Common.{zero}
use Rattle.std.proofs.lemmas.Bool.{cases_eq}
use Rattle.std.specs.{Prelude.slice_index}

-- a count of each id that has one
abbrev pub Counted : Type 0
Counted = ℕ → Option ℕ

-- one where there is none
abbrev pub lack : Option ℕ → ℕ
lack None = 1
lack (Some n) = 0

-- how many of the n ids from `low` on have no count
abbrev pub missing : Counted → ℕ → ℕ → ℕ
missing counts low zero = 0
missing counts low (suc n) = lack (counts low) + missing counts (suc low) n

lack_most : (x : Option ℕ) → lack x ≤ 1
lack_most None = omega arith
lack_most (Some n) = omega arith

pub missing_most : (counts : Counted) (low n : ℕ) → missing counts low n ≤ n
missing_most counts low zero = omega arith
missing_most counts low (suc n) =
    let one = lack_most (counts low) in let rest = missing_most counts (suc low) n in omega (arith, one, rest)

-- of more ids more are missing
pub missing_more : (counts : Counted) (low n m : ℕ) → n ≤ m → missing counts low n ≤ missing counts low m
missing_more counts low zero m le = omega arith
missing_more counts low (suc n) zero le = absurd (omega (arith, le))
missing_more counts low (suc n) (suc m) le =
    let rest = missing_more counts (suc low) n m (omega (arith, le)) in omega (arith, rest)

-- ---- ids that go

tail_rises : (x : ℕ) (xs : List ℕ) → IsStrictlyIncreasing (x ∷ xs) → IsStrictlyIncreasing xs
tail_rises x xs rises = λ k lt.
    let next : suc k + 1 ≡ suc (k + 1) = omega arith in
    omega (arith, rises (suc k) (omega (arith, lt)), ap (slice_index (x ∷ xs)) next)

-- each is at least so much
abbrev pub AreFrom : ℕ → List ℕ → Type 0
AreFrom low [] = Unit {0}
AreFrom low (x ∷ xs) = low ≤ x

first_there : (x : ℕ) (xs : List ℕ) → Contains (x ∷ xs) x
first_there x xs = (0, omega arith, refl)

rest_there : (x y : ℕ) (xs : List ℕ) → Contains xs y → Contains (x ∷ xs) y
rest_there x y xs there = (suc there.0, omega (arith, there.1), there.2)

rest_from : (x : ℕ) (xs : List ℕ) → IsStrictlyIncreasing (x ∷ xs) → AreFrom (suc x) xs
rest_from x [] rises = tt
rest_from x (y ∷ ys) rises = let next : x < y = rises 0 (omega arith) in omega (arith, next)

lack_none : (x : Option ℕ) → (IsSome x → ⊥) → lack x ≡ 1
lack_none None none = refl
lack_none (Some n) none = absurd (none refl)

lack_some : (x : Option ℕ) → IsSome x → lack x ≡ 0
lack_some None some = absurd (true≢false (sym some))
lack_some (Some n) some = refl

lack_fewer : (x y : Option ℕ) → (IsSome y → IsSome x) → lack x ≤ lack y
lack_fewer x None still = lack_most x
lack_fewer x (Some n) still = let none = lack_some x (still refl) in omega (arith, none)

-- The ids below `top` that are counted now were counted before; these ids were, and are not now. So as many more are
-- missing.
module _ (old new : Counted) (top : ℕ) (stays : (id : ℕ) → id < top → IsSome (new id) → IsSome (old id)) where
  pub missing_gone : (low n : ℕ) (ids : List ℕ) → low + n ≤ top → IsStrictlyIncreasing ids → AreFrom low ids
      → ((id : ℕ) → Contains ids id → id < low + n) → ((id : ℕ) → Contains ids id → IsSome (old id))
      → ((id : ℕ) → Contains ids id → IsSome (new id) → ⊥)
      → missing old low n + length ids ≤ missing new low n
  missing_gone low zero [] within rises from below were gone = omega arith
  missing_gone low zero (x ∷ xs) within rises from below were gone =
      let most = below x (first_there x xs) in absurd (omega (arith, from, most))
  missing_gone low (suc n) [] within rises from below were gone =
      let here = lack_fewer (old low) (new low) (stays low (omega (arith, within))) in
      let rest = missing_gone (suc low) n [] (omega (arith, within)) rises tt
      (λ id there. omega (arith, there.1)) were gone in
      omega (arith, here, rest)
  missing_gone low (suc n) (x ∷ xs) within rises from below were gone = ⊎_elim
      (λ same.
      let was = lack_some (old low) (subst (λ (i : ℕ). IsSome (old i)) same (were x (first_there x xs))) in
      let is = lack_none (new low) (subst (λ (i : ℕ). IsSome (new i) → ⊥) same (gone x (first_there x xs))) in
      let rest = missing_gone (suc low) n xs (omega (arith, within)) (tail_rises x xs rises)
      (subst (λ (i : ℕ). AreFrom (suc i) xs) same (rest_from x xs rises))
      (λ id there. omega (arith, below id (rest_there x id xs there)))
      (λ id there. were id (rest_there x id xs there))
      (λ id there. gone id (rest_there x id xs there)) in
      omega (arith, was, is, rest))
      (λ other.
      let here = lack_fewer (old low) (new low) (stays low (omega (arith, within))) in
      let rest = missing_gone (suc low) n (x ∷ xs) (omega (arith, within)) rises (omega (arith, from, other))
      (λ id there. omega (arith, below id there)) were gone in
      omega (arith, here, rest))
      (cases_eq x low)
