-- Sums that are kept in lanes.
use Rattle.std.proofs.Common.{◌≡◌, ◌≤◌, ◌<◌, ◌^◌, ◌+◌, ◌*◌, ℕ, List, [], ◌∷◌, map, take, drop, length, refl, sym, ap}
use Rattle.std.proofs.Common.{◌∙◌, arith, Fits}
use Rattle.std.proofs.lemmas.Simd.{Each2-of, Each1-zip2, sum-zip2, fold-sum, sum_bound, sum_fits}
use Rattle.std.proofs.lemmas.List.Sums.{sum_by-append, sum_by-cons, sum_by-take-le}
use Rattle.std.proofs.lemmas.List.Elements.{All-take, All-drop}
use Rattle.std.proofs.Math.Seq.{take-add}
use Rattle.std.specs.Simd.Lanes.{zip2, Each2, Steps, fold_l, sum_l}
use Rattle.std.specs.{Prelude.ℤ, Prelude.sum_by, Prelude.FitsSigned, Int.w16, Int.w32}
use Rattle.peak_summary.specs.{Peaks.square, Peaks.AreSamples, Lanes.AreAtMost, Lanes.HasGrown}
use Rattle.peak_summary.proofs.Joins.{squares_le}

-- the sum of two vectors fits, lane by lane
pub both_fit : (m n : ℕ) (xs ys : List ℕ) → m + n < 2 ^ 32 → AreAtMost m xs → AreAtMost n ys
    → Each2 (λ a b. Fits w32 (a + b)) xs ys
both_fit m n xs ys few mx my =
    Each2-of (λ a. a ≤ m) (λ b. b ≤ n) (λ a b. Fits w32 (a + b))
    (λ a b la lb. record { fits = omega (arith, la, lb, few) }) xs ys mx my

pub both_at_most : (m n k : ℕ) (xs ys : List ℕ) → m + n ≡ k → AreAtMost m xs → AreAtMost n ys
    → AreAtMost k (zip2 (λ a b. a + b) xs ys)
both_at_most m n k xs ys e mx my =
    Each1-zip2 (λ a b. a + b) (λ a. a ≤ k) xs ys
    (Each2-of (λ a. a ≤ m) (λ b. b ≤ n) (λ a b. a + b ≤ k) (λ a b la lb. omega (arith, la, lb, e)) xs ys mx my)

-- four lanes that stay small have a sum that fits
pub lanes_fit : (xs : List ℕ) → length xs ≡ 4 → AreAtMost (2 ^ 22) xs
    → Steps (λ s x. Fits w32 (s + x)) (λ s x. s + x) 0 xs
lanes_fit xs four at_most =
    let all = sum_bound (2 ^ 22) xs at_most in
    sum_fits w32 0 xs (omega (arith, all, four))

sum_squares : (xs : List ℤ) → sum_l (map square xs) ≡ sum_by square xs
sum_squares [] = refl
sum_squares (x ∷ xs) = ap (λ (n : ℕ). square x + n) (sum_squares xs) ∙ sym (sum_by-cons square x xs)

-- some samples more
pub sum_take : (xs : List ℤ) (a n all : ℕ) → all ≡ a + n
    → sum_by square (take a xs) + sum_by square (take n (drop a xs)) ≡ sum_by square (take all xs)
sum_take xs a n all is =
    sym (sum_by-append square (take a xs) (take n (drop a xs)))
    ∙ ap (sum_by square) (sym (take-add a n xs))
    ∙ ap (λ (m : ℕ). sum_by square (take m xs)) (sym is)

-- a part of samples
pub part_fits : (a n : ℕ) (xs : List ℤ) → AreSamples xs → AreSamples (take n (drop a xs))
part_fits a n xs fit =
    All-take (λ s. FitsSigned w16 s) n (drop a xs) (All-drop (λ s. FitsSigned w16 s) a xs fit)

-- the squares of the first samples have a sum that fits
pub sum_fits_take : (xs : List ℤ) (n : ℕ) → AreSamples xs → length xs ≤ 2 ^ 32 → sum_by square (take n xs) ≤ 2 ^ 62
sum_fits_take xs n fit few =
    let part = sum_by-take-le square xs n in
    let all = squares_le xs fit in
    omega (arith, part, all, few)

-- eight samples more
pub sum_more : (xs : List ℤ) (low high more_low more_high sums : List ℕ)
    → length low ≡ 4 → length high ≡ 4 → length more_low ≡ 4 → length more_high ≡ 4
    → sum_l more_low + 2 ^ 16 * sum_l more_high ≡ sum_l sums
    → sum_l sums ≡ sum_l (map square xs)
    → HasGrown (2 ^ 16) low high xs (zip2 (λ a b. a + b) low more_low) (zip2 (λ a b. a + b) high more_high)
sum_more xs low high more_low more_high sums fl fh fml fmh halves squares =
    let lows = sum-zip2 low more_low (omega (arith, fl, fml)) in
    let highs = sum-zip2 high more_high (omega (arith, fh, fmh)) in
    let new = sum_squares xs in
    omega (arith, lows, highs, halves, squares, new)

-- the sum of such lanes, as it is computed
pub lanes_sum : (xs : List ℕ) → fold_l (λ s x. s + x) 0 xs ≡ sum_l xs
lanes_sum xs =
    let sum = fold-sum 0 xs in
    omega (arith, sum)

pub lanes_small : (xs : List ℕ) → length xs ≡ 4 → AreAtMost (2 ^ 22) xs → sum_l xs ≤ 2 ^ 24
lanes_small xs four at_most =
    let all = sum_bound (2 ^ 22) xs at_most in
    omega (arith, all, four)
