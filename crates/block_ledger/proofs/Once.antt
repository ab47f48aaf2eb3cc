-- Of the ids that are such there is one rising list.
use Rattle.std.proofs.Common.{◌≡◌, ⊎_elim, ℕ, suc, ◌+◌, ◌<◌, List, [], ◌∷◌, length, refl, sym, ap, ap₂, arith}
use Rattle.std.specs.{Prelude.Contains, Prelude.◌↔◌, Prelude.slice_index, List.Sorted.IsStrictlyIncreasing}
use Rattle.block_ledger.specs.Counts.{AreAll}
use Rattle.block_ledger.proofs.Listed.{contains_cases, contains_more}

tail_rises : (x : ℕ) (xs : List ℕ) → IsStrictlyIncreasing (x ∷ xs) → IsStrictlyIncreasing xs
tail_rises x xs rises = λ k lt.
    let next : suc k + 1 ≡ suc (k + 1) = omega arith in
    omega (arith, rises (suc k) (omega (arith, lt)), ap (slice_index (x ∷ xs)) next)

-- the first is below all others
first_least : (x y : ℕ) (xs : List ℕ) → IsStrictlyIncreasing (x ∷ xs) → Contains xs y → x < y
first_least x y [] rises there = absurd (omega (arith, there.1))
first_least x y (z ∷ zs) rises there =
    let next : x < z = rises 0 (omega arith) in
    ⊎_elim
    (λ same. omega (arith, next, same))
    (λ more. omega (arith, next, first_least z y zs (tail_rises x (z ∷ zs) rises) more))
    (contains_cases z y zs there)

same_first : (x y : ℕ) (xs ys : List ℕ) → IsStrictlyIncreasing (x ∷ xs) → IsStrictlyIncreasing (y ∷ ys)
    → Contains (y ∷ ys) x → Contains (x ∷ xs) y → x ≡ y
same_first x y xs ys one two there here = ⊎_elim
    (λ same. sym same)
    (λ behind. ⊎_elim
    (λ same. same)
    (λ more. absurd (omega (arith, first_least y x ys two behind, first_least x y xs one more)))
    (contains_cases x y xs here))
    (contains_cases y x ys there)

-- what is in the rest is in the other's rest
rest_there : (x y z : ℕ) (xs ys : List ℕ) → x ≡ y → IsStrictlyIncreasing (x ∷ xs)
    → (Contains (x ∷ xs) z → Contains (y ∷ ys) z) → Contains xs z → Contains ys z
rest_there x y z xs ys same rises all there = ⊎_elim
    (λ is. absurd (omega (arith, same, is, first_least x z xs rises there)))
    (λ more. more)
    (contains_cases y z ys (all (contains_more x z xs there)))

pub one_list : (xs ys : List ℕ) → IsStrictlyIncreasing xs → IsStrictlyIncreasing ys
    → ((z : ℕ) → Contains xs z ↔ Contains ys z) → xs ≡ ys
one_list [] [] one two same = refl
one_list [] (y ∷ ys) one two same = let there = (same y).1 (0, omega arith, refl) in absurd (omega (arith, there.1))
one_list (x ∷ xs) [] one two same = let there = (same x).0 (0, omega arith, refl) in absurd (omega (arith, there.1))
one_list (x ∷ xs) (y ∷ ys) one two same =
    let first : x ≡ y =
    same_first x y xs ys one two ((same x).0 (0, omega arith, refl)) ((same y).1 (0, omega arith, refl)) in
    ap₂ ◌∷◌ first (one_list xs ys (tail_rises x xs one) (tail_rises y ys two) (λ z. (
      λ there. rest_there x y z xs ys first one (same z).0 there,
      λ there. rest_there y x z ys xs (sym first) two (same z).1 there,
    )))

pub one_length : (P : ℕ → Type 0) (xs ys : List ℕ) → AreAll P xs → AreAll P ys → length xs ≡ length ys
one_length P xs ys one two =
    ap length (one_list xs ys one.rising two.rising
    (λ z. (λ there. (two.each z).1 ((one.each z).0 there), λ there. (one.each z).1 ((two.each z).0 there))))
