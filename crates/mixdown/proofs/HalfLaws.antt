-- A sample under the two halves of a gain is the sample under the gain.
use Rattle.mixdown.proofs.Common.{◌≡◌, ◌≤◌, ◌+◌, ◌*◌, ◌/◌, ◌%◌, ℕ, suc, ℤ, pos, refl, sym, ap, ap₂, ◌∙◌, arith, to_z}
use Rattle.mixdown.proofs.Common.{of_z, w16, w32, ints, ◌+ℤ◌, nat_abs, int_div_euclid, scaled}
use Rattle.std.proofs.{Math.Nat.mul-le-mul}
use Rattle.std.specs.Prelude.{negsuc, ◌*ℤ◌, FitsSigned}
use Rattle.std.specs.{Int.Signed.shr_z}
use lib.IntN.{neg_ℤ}

spread : (h l n : ℕ) → (h * 65536 + l) * n ≡ h * n * 65536 + l * n
spread h l n = omega arith

halves : (g n : ℕ) → g * n ≡ g / 65536 * n * 65536 + g % 65536 * n
halves g n =
    let both : g ≡ g / 65536 * 65536 + g % 65536 = omega arith in
    ap (λ (m : ℕ). m * n) both ∙ spread (g / 65536) (g % 65536) n

below_zero : (x y : ℤ) (a b c : ℕ) → a ≡ b * 65536 + c → x ≡ neg_ℤ (pos a) +ℤ pos 32768
    → y ≡ neg_ℤ (pos c) +ℤ pos 32768 → int_div_euclid x (pos 65536) ≡ neg_ℤ (pos b) +ℤ shr_z y 65536
below_zero (pos m) (pos n) a b c e ex ey = omega (arith, ints, e, ex, ey)
below_zero (pos m) (negsuc n) a b c e ex ey = omega (arith, ints, e, ex, ey)
below_zero (negsuc m) (pos n) a b c e ex ey = omega (arith, ints, e, ex, ey)
below_zero (negsuc m) (negsuc n) a b c e ex ey = omega (arith, ints, e, ex, ey)

scaled_in_halves : (g : ℕ) (s : ℤ)
    → scaled g s ≡ pos (g / 65536) *ℤ s +ℤ shr_z (pos (g % 65536) *ℤ s +ℤ pos 32768) 65536
scaled_in_halves g (pos n) = let both = halves g n in omega (arith, ints, both)
scaled_in_halves g (negsuc n) =
    below_zero _ _ (g * suc n) (g / 65536 * suc n) (g % 65536 * suc n) (halves g (suc n)) refl refl

-- ---- what fits into 32 bits

most_above : (a n m : ℕ) → a ≤ m → FitsSigned w16 (pos n) → a * n ≤ m * 32767
most_above a n m le fits = let few : n ≤ 32767 = omega (arith, fits) in mul-le-mul le few

most_below : (a n m : ℕ) → a ≤ m → FitsSigned w16 (negsuc n) → a * suc n ≤ m * 32768
most_below a n m le fits = let few : suc n ≤ 32768 = omega (arith, fits) in mul-le-mul le few

product_fits : (a : ℕ) (s : ℤ) → a ≤ 65535 → FitsSigned w16 s → to_z w32 (of_z w32 (pos a *ℤ s)) ≡ pos a *ℤ s
product_fits a (pos n) le fits = omega (arith, ints, most_above a n 65535 le fits)
product_fits a (negsuc n) le fits = omega (arith, ints, most_below a n 65535 le fits)

rounded_fits : (a : ℕ) (s : ℤ) → a ≤ 65535 → FitsSigned w16 s
    → to_z w32 (of_z w32 (pos a *ℤ s +ℤ pos 32768)) ≡ pos a *ℤ s +ℤ pos 32768
rounded_fits a (pos n) le fits = omega (arith, ints, most_above a n 65535 le fits)
rounded_fits a (negsuc n) le fits = omega (arith, ints, most_below a n 65535 le fits)

shifted_fits : (z x : ℤ) → x ≡ to_z w32 (of_z w32 z) → x ≡ z
    → to_z w32 (of_z w32 (shr_z z 65536)) ≡ shr_z z 65536
shifted_fits (pos n) x ex e = omega (arith, ints, ex, e)
shifted_fits (negsuc n) x ex e = omega (arith, ints, ex, e)

small_below : (x : ℤ) (a : ℕ) → a ≤ 1048576 * 32768 → x ≡ neg_ℤ (pos a) +ℤ pos 32768
    → nat_abs (int_div_euclid x (pos 65536)) ≤ 524288
small_below (pos m) a le ex = omega (arith, ints, le, ex)
small_below (negsuc m) a le ex = omega (arith, ints, le, ex)

pub scaled_small : (g : ℕ) (s : ℤ) → g ≤ 1048576 → FitsSigned w16 s → nat_abs (scaled g s) ≤ 524288
scaled_small g (pos n) le fits = omega (arith, ints, most_above g n 1048576 le fits)
scaled_small g (negsuc n) le fits = small_below _ (g * suc n) (most_below g n 1048576 le fits) refl

-- ---- as it is computed

abbrev pub upper_part : ℤ → ℤ → ℤ
upper_part high s = to_z w32 (of_z w32 (high *ℤ s))

abbrev pub lower_part : ℤ → ℤ → ℤ
lower_part low s =
    to_z w32 (of_z w32 (shr_z (to_z w32 (of_z w32 (to_z w32 (of_z w32 (low *ℤ s)) +ℤ pos 32768))) 65536))

upper_is : (a : ℕ) (high s t : ℤ) → high ≡ pos a → t ≡ s → a ≤ 65535 → FitsSigned w16 s
    → upper_part high t ≡ pos a *ℤ s
upper_is a high s t eh et le fits =
    ap (λ x. upper_part x t) eh ∙ ap (upper_part (pos a)) et ∙ product_fits a s le fits

lower_is : (a : ℕ) (low s t : ℤ) → low ≡ pos a → t ≡ s → a ≤ 65535 → FitsSigned w16 s
    → lower_part low t ≡ shr_z (pos a *ℤ s +ℤ pos 32768) 65536
lower_is a low s t el et le fits =
    ap (λ x. lower_part x t) el ∙ ap (lower_part (pos a)) et
    ∙ ap (λ x. to_z w32 (of_z w32 (shr_z (to_z w32 (of_z w32 (x +ℤ pos 32768))) 65536))) (product_fits a s le fits)
    ∙ ap (λ x. to_z w32 (of_z w32 (shr_z x 65536))) (rounded_fits a s le fits)
    ∙ shifted_fits (pos a *ℤ s +ℤ pos 32768) _ refl (rounded_fits a s le fits)

-- the sum of the two parts
pub parts_are : (g : ℕ) (s t high low : ℤ) → high ≡ pos (g / 65536) → low ≡ pos (g % 65536) → t ≡ s → g ≤ 1048576
    → FitsSigned w16 s → upper_part high t +ℤ lower_part low t ≡ scaled g s
parts_are g s t high low eh el et le fits =
    ap₂ ◌+ℤ◌ (upper_is (g / 65536) high s t eh et (omega (arith, le)) fits)
    (lower_is (g % 65536) low s t el et (omega arith) fits)
    ∙ sym (scaled_in_halves g s)

pub fits_back : (z w : ℤ) → z ≡ w → nat_abs w ≤ 524288 → FitsSigned w32 z
fits_back (pos n) w e le = record { sfits = omega (arith, ap nat_abs e, le) }
fits_back (negsuc n) w e le = record { sfits = omega (arith, ap nat_abs e, le) }

pub same_back : (z w : ℤ) → z ≡ w → nat_abs w ≤ 524288 → to_z w32 (of_z w32 z) ≡ w
same_back z w e le = omega (arith, ints, ap nat_abs e, e, le)
