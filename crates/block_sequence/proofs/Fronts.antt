-- What two lists of blocks have in common.
use Rattle.std.proofs.Common.{◌≡◌, ℕ, ◌+◌, ◌≤◌, min, Bool, true, false, ◌&&◌, inl, inr, ◌⊎◌, List}
use Rattle.std.proofs.Common.{zero, suc, get_or, if◌then◌else◌, [], ◌∷◌, ◌++◌, length, take, drop, refl, sym, ap, ap₂, ◌∙◌, arith}
use Rattle.std.proofs.lemmas.{Bool.cases_lt, Bool.eq-eqb, Bool.eqb-true, List.drop_all, List.take_all}
use Rattle.pcm_base.specs.declared.block.BlockRef.{BlockRef}
use Rattle.block_sequence.specs.Fronts.{is_block, common}

common_nil : (xs : List BlockRef) → common xs [] ≡ 0
common_nil [] = refl
common_nil (x ∷ xs) = refl

by_case : (a b : List BlockRef) → ((a ≡ []) ⊎ (b ≡ [])) → common a b ≡ 0
by_case a b (inl none) = ap (λ l. common l b) none
by_case a b (inr none) = ap (common a) none ∙ common_nil a

pub common_ends : (xs ys : List BlockRef) (i : ℕ) → min (length xs) (length ys) ≤ i
    → common (drop i xs) (drop i ys) ≡ 0
common_ends xs ys i past = by_case (drop i xs) (drop i ys) (ends xs ys i past)
  where
    ends : (xs ys : List BlockRef) (i : ℕ) → min (length xs) (length ys) ≤ i
        → ((drop i xs ≡ []) ⊎ (drop i ys ≡ []))
    ends xs ys i past = elim (cases_lt (length ys) (length xs)) [
      | inl less ↦ inr (drop_all i ys (omega (arith, past, less)))
      | inr most ↦ inl (drop_all i xs (omega (arith, past, most)))
    ]

-- what is common is within both
pub common_within : (xs ys : List BlockRef) → (common xs ys ≤ length xs) × (common xs ys ≤ length ys)
common_within [] ys = (omega arith, omega arith)
common_within (x ∷ xs) [] = (omega arith, omega arith)
common_within (x ∷ xs) (y ∷ ys) = search (arith, common_within xs ys)

-- past what is common of two fronts, the rest decides
pub common_more : (xs ys us vs : List BlockRef)
    → common (xs ++ us) (ys ++ vs) ≡ common xs ys + common (drop (common xs ys) xs ++ us) (drop (common xs ys) ys ++ vs)
common_more [] ys us vs = omega arith
common_more (x ∷ xs) [] us vs = omega arith
common_more (x ∷ xs) (y ∷ ys) us vs = search (arith, common_more xs ys us vs)

pub count_more : (xs ys us vs : List BlockRef) (n : ℕ) (ls os : List BlockRef) → n ≡ common xs ys
    → ls ≡ drop n xs ++ us → os ≡ drop n ys ++ vs → common (xs ++ us) (ys ++ vs) ≡ n + common ls os
count_more xs ys us vs n ls os e l o =
    common_more xs ys us vs
    ∙ ap₂ ◌+◌ (sym e) (ap₂ common (ap (λ k. drop k xs ++ us) (sym e) ∙ sym l) (ap (λ k. drop k ys ++ vs) (sym e) ∙ sym o))

is_itself : (a : BlockRef) → is_block a a ≡ true
is_itself a = search (arith, eq-eqb)

-- past blocks that are the same the rest decides
pub common_past : (n : ℕ) (xs ys : List BlockRef) → n ≤ length xs → n ≤ length ys → take n xs ≡ take n ys
    → common xs ys ≡ n + common (drop n xs) (drop n ys)
common_past zero xs ys x y same = omega arith
common_past (suc n) [] ys x y same = omega (arith, x)
common_past (suc n) (a ∷ xs) [] x y same = omega (arith, y)
common_past (suc n) (a ∷ xs) (b ∷ ys) x y same =
    let here : a ≡ b = ap (λ (zs : List BlockRef). get_or zs 0 a) same in
    let more : take n xs ≡ take n ys = ap (drop 1) same in
    let test : is_block a b ≡ true = ap (is_block a) (sym here) ∙ is_itself a in
    ap (λ c. if c then suc (common xs ys) else 0) test
    ∙ ap suc (common_past n xs ys (omega (arith, x)) (omega (arith, y)) more)
    ∙ (let e : suc (n + common (drop n xs) (drop n ys)) ≡ suc n + common (drop n xs) (drop n ys) = omega arith in e)

-- two fronts without a common block, each empty only if all is
pub common_none : (xs ys us vs : List BlockRef) → common xs ys ≡ 0 → (xs ≡ [] → us ≡ []) → (ys ≡ [] → vs ≡ [])
    → common (xs ++ us) (ys ++ vs) ≡ 0
common_none [] ys us vs e none other = by_case us (ys ++ vs) (inl (none refl))
common_none (x ∷ xs) [] us vs e none other = by_case (x ∷ xs ++ us) vs (inr (other refl))
common_none (x ∷ xs) (y ∷ ys) us vs e none other = search (arith, e)

record Both (a b : Bool) : Type 0 where
  first : a ≡ true
  second : b ≡ true

both : (a b : Bool) → a && b ≡ true → Both a b
both true b e = record { first = refl; second = e }
both false b e = absurd cc

pub block_same : (a b : BlockRef) → is_block a b ≡ true → a ≡ b
block_same a b e = search (arith, both, eqb-true)

-- as far as they have blocks in common they are the same
pub common_take : (xs ys : List BlockRef) → take (common xs ys) xs ≡ take (common xs ys) ys
common_take [] ys = refl
common_take (x ∷ xs) [] = refl
common_take (x ∷ xs) (y ∷ ys) = search (arith, common_take xs ys, block_same)

-- where all is common they are the same
pub common_all : (xs ys : List BlockRef) → length xs ≡ length ys → common xs ys ≡ length xs → xs ≡ ys
common_all xs ys long all =
    sym (take_all (common xs ys) xs (omega (arith, all))) ∙ common_take xs ys
    ∙ take_all (common xs ys) ys (omega (arith, all, long))
