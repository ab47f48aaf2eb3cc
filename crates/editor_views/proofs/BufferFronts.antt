-- The front of a buffer that was written.
use Rattle.editor_views.proofs.Common.{◌≡◌, refl, ap, ℕ, zero, suc, ◌≤◌, List, [], ◌∷◌, ◌++◌, length, take, arith}

pub view_front : {A : Type 0} (n len : ℕ) (out rest : List A) → n ≤ length out → length out ≤ len
    → take n (take len (out ++ rest)) ≡ take n out
view_front zero len out rest few fits = refl
view_front (suc n) len [] rest few fits = absurd (omega (arith, few))
view_front (suc n) zero (x ∷ xs) rest few fits = absurd (omega (arith, fits))
view_front (suc n) (suc len) (x ∷ xs) rest few fits =
    ap (λ (z : List _). x ∷ z) (view_front n len xs rest (omega (arith, few)) (omega (arith, fits)))
