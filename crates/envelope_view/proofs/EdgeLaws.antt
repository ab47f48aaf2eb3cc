-- Where columns begin, and one column more.
use Rattle.envelope_view.proofs.Common.{◌≡◌, ℕ, ◌+◌, ◌*◌, ◌/◌, ◌-◌, ◌≤◌, [], ◌∷◌, ◌++◌, map, ap, ◌∙◌, arith}
use Rattle.envelope_view.proofs.Common.{counted_from, edge}
use Rattle.std.proofs.{Math.Nat.div-le_of_le-mul, Math.Nat.mul-le-mul_left, Math.Nat.mul_comm, lemmas.List.map-append}
use Rattle.pcm_base.proofs.ListFacts.{counted_more}

-- i parts of w are no more than the whole
pub share_within : (i w n : ℕ) → i ≤ w → i * n / w ≤ n
share_within i w n among =
    let grows = mul-le-mul_left n among in
    let left = mul_comm i n in
    let right = mul_comm w n in
    div-le_of_le-mul w (omega arith)

pub columns_more : {A : Type 0} (f : ℕ → A) (i : ℕ)
    → map f (counted_from 0 (i + 1)) ≡ map f (counted_from 0 i) ++ f i ∷ []
columns_more f i =
    let e : 0 + i ≡ i = omega arith in
    ap (map f) (counted_more 0 i) ∙ map-append f (counted_from 0 i) ((0 + i) ∷ [])
    ∙ ap (λ k. map f (counted_from 0 i) ++ f k ∷ []) e

pub first_edge : (from to w : ℕ) → from ≡ edge from to w 0
first_edge from to w =
    let e : 0 * (to - from) ≡ 0 * 0 = omega arith in
    let none : 0 * 0 / w ≤ 0 = share_within 0 w 0 (omega arith) in
    let zero_share : 0 * (to - from) / w ≡ 0 = ap (λ (k : ℕ). k / w) e ∙ omega (arith, none) in
    omega (arith, zero_share)
