-- Parts of lists, from one place to another.
use Rattle.cell_reader.proofs.Common.{◌≡◌, ℕ, zero, suc, ◌-◌, ◌≤◌, ◌<◌, ⊎_elim, List, [], ◌∷◌, ◌++◌, length, take, drop}
use Rattle.cell_reader.proofs.Common.{map, min, sym, ap, ◌∙◌, arith, length-drop, length-replicate, take_min}
use Rattle.cell_reader.proofs.Common.{nil_from_length, cases_lt, replicate, part, length-part}
use Rattle.std.proofs.lemmas.List.{drop-append-le, take-map, drop-map, take-replicate, drop-replicate}
use Rattle.std.proofs.{Math.Seq.drop-append_seam, Math.Seq.take-append_seam}
use Rattle.pcm_base.proofs.Pieces.{drop-past}

-- a front that may reach past the first of two lists
pub take-past : {A : Type 0} (n : ℕ) (xs ys : List A) → take n (xs ++ ys) ≡ take n xs ++ take (n - length xs) ys
take-past zero xs ys = let e : 0 ≡ 0 - length xs = omega arith in ap (λ k. take k ys) e
take-past (suc n) [] ys = let e : suc n ≡ suc n - 0 = omega arith in ap (λ k. take k ys) e
take-past (suc n) (x ∷ xs) ys =
    let e : n - length xs ≡ suc n - suc (length xs) = omega arith in
    ap (λ zs. x ∷ zs) (take-past n xs ys) ∙ ap (λ k. (x ∷ take n xs) ++ take k ys) e

pub part-empty : {A : Type 0} (from to : ℕ) (xs : List A) → min (length xs) to ≤ from → part from to xs ≡ []
part-empty from to xs h = nil_from_length (part from to xs) (omega (arith, length-part from to xs))

-- a part of two lists is a part of each
pub part-append : {A : Type 0} (from to : ℕ) (xs ys : List A)
    → part from to (xs ++ ys) ≡ part from to xs ++ part (from - length xs) (to - length xs) ys
part-append {A = A} from to xs ys = ⊎_elim past within (cases_lt (length xs) from)
  where
    past : length xs < from → part from to (xs ++ ys) ≡ part from to xs ++ part (from - length xs) (to - length xs) ys
    past h =
        let gone : part from to xs ≡ [] = part-empty from to xs (omega arith) in
        let rest : drop from (xs ++ ys) ≡ drop (from - length xs) ys = drop-past xs ys from (omega arith) in
        let e : to - from ≡ (to - length xs) - (from - length xs) = omega arith in
        ap (take (to - from)) rest ∙ ap (λ k. take k (drop (from - length xs) ys)) e
        ∙ ap (λ zs. zs ++ part (from - length xs) (to - length xs) ys) (sym gone)

    within : from ≤ length xs → part from to (xs ++ ys) ≡ part from to xs ++ part (from - length xs) (to - length xs) ys
    within h =
        let cut : drop from (xs ++ ys) ≡ drop from xs ++ ys = drop-append-le from xs ys h in
        let all : 0 ≡ from - length xs = omega arith in
        let e : (to - from) - length (drop from xs) ≡ (to - length xs) - (from - length xs) =
        omega (arith, length-drop from xs) in
        let back : ys ≡ drop (from - length xs) ys = ap (λ k. drop k ys) all in
        ap (take (to - from)) cut ∙ take-past (to - from) (drop from xs) ys
        ∙ ap (λ k. part from to xs ++ take k ys) e
        ∙ ap (λ zs. part from to xs ++ take ((to - length xs) - (from - length xs)) zs) back

pub part-map : {A B : Type 0} (f : A → B) (from to : ℕ) (xs : List A)
    → part from to (map f xs) ≡ map f (part from to xs)
part-map f from to xs = ap (take (to - from)) (drop-map f from xs) ∙ take-map f (to - from) (drop from xs)

pub part-replicate : {A : Type 0} (from to n : ℕ) (y : A) → part from to (replicate n y) ≡ replicate (min n to - from) y
part-replicate from to n y =
    let len : length (replicate (n - from) y) ≡ n - from = length-replicate (n - from) y in
    let few : min (to - from) (length (replicate (n - from) y)) ≤ n - from = omega (arith, len) in
    let e : min (to - from) (length (replicate (n - from) y)) ≡ min n to - from = omega (arith, len) in
    ap (take (to - from)) (drop-replicate from n y) ∙ sym (take_min (to - from) (replicate (n - from) y))
    ∙ take-replicate (min (to - from) (length (replicate (n - from) y))) (n - from) y few ∙ ap (λ k. replicate k y) e

-- the first of two lists, and the second
pub take_front : {A : Type 0} (n : ℕ) (xs ys : List A) → length xs ≡ n → take n (xs ++ ys) ≡ xs
take_front n xs ys size = ap (λ k. take k (xs ++ ys)) (sym size) ∙ take-append_seam xs ys

pub drop_front : {A : Type 0} (n : ℕ) (xs ys : List A) → length xs ≡ n → drop n (xs ++ ys) ≡ ys
drop_front n xs ys size = ap (λ k. drop k (xs ++ ys)) (sym size) ∙ drop-append_seam xs ys
