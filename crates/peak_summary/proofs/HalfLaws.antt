-- Lanes of 32 bits, cut into halves.
use Rattle.std.proofs.Common.{◌≡◌, ◌^◌, ◌+◌, ◌*◌, ◌/◌, ◌%◌, ℕ, List, [], ◌∷◌, map, length, refl, sym, ap, ◌∙◌, subst}
use Rattle.std.proofs.Common.{arith, bit_and}
use Rattle.std.proofs.{lemmas.List.length-map, lemmas.Simd.zip2_splat, lemmas.Nat.and_mask}
use Rattle.std.specs.{Prelude.replicate, Simd.Lanes.zip2, Simd.Lanes.sum_l}
use Rattle.peak_summary.specs.Lanes.{AreAtMost}

abbrev low_half : ℕ → ℕ
low_half x = bit_and x 65535

abbrev high_half : ℕ → ℕ
high_half x = x / 2 ^ 16

low_is : (x : ℕ) → low_half x ≡ x % 65536
low_is x = and_mask x 16

low_halves : (xs : List ℕ) → AreAtMost (2 ^ 16) (map low_half xs)
low_halves [] = tt
low_halves (x ∷ xs) =
    let low = low_is x in
    (omega (arith, low), low_halves xs)

high_halves : (xs : List ℕ) → AreAtMost (2 ^ 31) xs → AreAtMost (2 ^ 16) (map high_half xs)
high_halves [] at_most = tt
high_halves (x ∷ xs) at_most =
    let here = at_most.0 in
    (omega (arith, here), high_halves xs at_most.1)

halves_sum : (xs : List ℕ) → sum_l (map low_half xs) + 2 ^ 16 * sum_l (map high_half xs) ≡ sum_l xs
halves_sum [] = refl
halves_sum (x ∷ xs) =
    let low = low_is x in
    let more = halves_sum xs in
    omega (arith, low, more)

low_lanes : (xs : List ℕ) → length xs ≡ 4 → zip2 bit_and xs (replicate 4 65535) ≡ map low_half xs
low_lanes xs four = zip2_splat bit_and xs 4 65535 four

high_lanes : (xs : List ℕ) → length xs ≡ 4 → zip2 (λ x k. x / 2 ^ k) xs (replicate 4 16) ≡ map high_half xs
high_lanes xs four = zip2_splat (λ x k. x / 2 ^ k) xs 4 16 four

pub low_at_most : (xs : List ℕ) → length xs ≡ 4 → AreAtMost (2 ^ 16) (zip2 bit_and xs (replicate 4 65535))
low_at_most xs four = subst (AreAtMost (2 ^ 16)) (sym (low_lanes xs four)) (low_halves xs)

pub high_at_most : (xs : List ℕ) → length xs ≡ 4 → AreAtMost (2 ^ 31) xs
    → AreAtMost (2 ^ 16) (zip2 (λ x k. x / 2 ^ k) xs (replicate 4 16))
high_at_most xs four at_most = subst (AreAtMost (2 ^ 16)) (sym (high_lanes xs four)) (high_halves xs at_most)

pub lengths : (xs : List ℕ) → length xs ≡ 4
    → (length (zip2 bit_and xs (replicate 4 65535)) ≡ 4) × (length (zip2 (λ x k. x / 2 ^ k) xs (replicate 4 16)) ≡ 4)
lengths xs four = (
  ap length (low_lanes xs four) ∙ length-map xs low_half ∙ four,
  ap length (high_lanes xs four) ∙ length-map xs high_half ∙ four,
)

-- the halves of all lanes are all that was in them
pub both_halves : (xs : List ℕ) → length xs ≡ 4
    → sum_l (zip2 bit_and xs (replicate 4 65535)) + 2 ^ 16 * sum_l (zip2 (λ x k. x / 2 ^ k) xs (replicate 4 16))
    ≡ sum_l xs
both_halves xs four =
    ap (λ (ys : List ℕ). sum_l ys + 2 ^ 16 * sum_l (zip2 (λ x k. x / 2 ^ k) xs (replicate 4 16))) (low_lanes xs four)
    ∙ ap (λ (ys : List ℕ). sum_l (map low_half xs) + 2 ^ 16 * sum_l ys) (high_lanes xs four)
    ∙ halves_sum xs
