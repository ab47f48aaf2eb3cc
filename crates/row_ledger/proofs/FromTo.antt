-- Parts of lists, from one place up to another.
use Rattle.std.proofs.Common.{◌≡◌, ℕ, ◌+◌, ◌-◌, ◌≤◌, inl, inr, min, List, [], ◌++◌, length, take, drop, refl, sym, ap}
use Rattle.std.proofs.Common.{◌∙◌, arith, append_assoc}
use Rattle.std.proofs.Math.Seq.{take-append-add}
use Rattle.std.proofs.lemmas.Bool.{cases_lt}
use Rattle.std.proofs.lemmas.List.{take-append-le, drop-append-le, append-nil, drop_all, take_all, length-drop, drop-drop}
use Rattle.std.proofs.lemmas.List.{take-append-drop, take-take, drop-take}
use Rattle.pcm_base.proofs.Pieces.{drop-past}
use Rattle.row_ledger.specs.Rows.{from_to}

take-two : (n : ℕ) (xs ys : List ℕ) → take n (xs ++ ys) ≡ take n xs ++ take (n - length xs) ys
take-two n xs ys = elim (cases_lt n (length xs)) [
  | inl a ↦
      let none : n - length xs ≡ 0 = omega arith in
      rw none (take-append-le n xs ys (omega arith) ∙ sym (append-nil (take n xs)))
  | inr a ↦
      let e : n ≡ length xs + (n - length xs) = omega arith in
      ap (λ k. take k (xs ++ ys)) e
      ∙ take-append-add xs ys (n - length xs)
      ∙ ap (λ zs. zs ++ take (n - length xs) ys) (sym (take_all n xs a))
]

pub from_to_past : (from to : ℕ) (xs : List ℕ) → length xs ≤ from → from_to from to xs ≡ []
from_to_past from to xs h = rw (drop_all from xs h) (take_all (to - from) [] (omega arith))

pub from_to_empty : (from to : ℕ) (xs : List ℕ) → to ≤ from → from_to from to xs ≡ []
from_to_empty from to xs h = let none : to - from ≡ 0 = omega arith in rw none refl

pub from_to-append : (from to : ℕ) (xs ys : List ℕ)
    → from_to from to (xs ++ ys) ≡ from_to from to xs ++ from_to (from - length xs) (to - length xs) ys
from_to-append from to xs ys = elim (cases_lt (length xs) from) [
  | inl a ↦
      let e : (to - length xs) - (from - length xs) ≡ to - from = omega arith in
      let none : from_to from to xs ≡ [] = from_to_past from to xs (omega arith) in
      ap (take (to - from)) (drop-past xs ys from (omega arith))
      ∙ sym (ap (λ zs. zs ++ from_to (from - length xs) (to - length xs) ys) none
      ∙ ap (λ k. take k (drop (from - length xs) ys)) e)
  | inr a ↦
      let none : from - length xs ≡ 0 = omega arith in
      let e : (to - from) - length (drop from xs) ≡ (to - length xs) - (from - length xs) =
      omega (arith, length-drop from xs) in
      ap (take (to - from)) (drop-append-le from xs ys a)
      ∙ take-two (to - from) (drop from xs) ys
      ∙ ap (λ k. take (to - from) (drop from xs) ++ take k ys) e
      ∙ ap (λ k. take (to - from) (drop from xs) ++ take ((to - length xs) - (from - length xs)) (drop k ys)) (sym none)
]

-- no further than the list
pub from_to_min : (from to : ℕ) (xs : List ℕ)
    → from_to from (min to (length xs)) xs ≡ from_to from to xs
from_to_min from to xs = elim (cases_lt to (length xs)) [
  | inl a ↦ let e : min to (length xs) ≡ to = omega arith in ap (λ k. from_to from k xs) e
  | inr a ↦
      let e : min to (length xs) ≡ length xs = omega arith in
      ap (λ k. from_to from k xs) e
      ∙ take_all (length xs - from) (drop from xs) (omega (arith, length-drop from xs))
      ∙ sym (take_all (to - from) (drop from xs) (omega (arith, length-drop from xs)))
]

pub from_to_all : (to : ℕ) (xs : List ℕ) → length xs ≤ to → from_to 0 to xs ≡ xs
from_to_all to xs h = take_all (to - 0) xs (omega arith)

-- nothing is wanted
pub part_none : (from to : ℕ) (out xs : List ℕ) → from_to from to xs ≡ [] → out ≡ out ++ from_to from to xs
part_none from to out xs none = sym (ap (λ zs. out ++ zs) none ∙ append-nil out)

-- one more list is passed: its part comes after what is there
pub part_more : (from to n : ℕ) (out xs ys : List ℕ) → length xs ≡ n
    → (out ++ from_to from to xs) ++ from_to (from - n) (to - n) ys ≡ out ++ from_to from to (xs ++ ys)
part_more from to n out xs ys is =
    append_assoc out (from_to from to xs) (from_to (from - n) (to - n) ys)
    ∙ ap (λ k. out ++ (from_to from to xs ++ from_to (from - k) (to - k) ys)) (sym is)
    ∙ ap (λ zs. out ++ zs) (sym (from_to-append from to xs ys))

-- all lists are passed
pub part_end : (from to : ℕ) (out xs all : List ℕ) → xs ≡ [] → out ++ from_to from to xs ≡ all → out ≡ all
part_end from to out xs all is h =
    sym (append-nil out)
    ∙ ap (λ zs. out ++ zs) (sym (ap (from_to from to) is ∙ from_to_past from to [] (omega arith)))
    ∙ h

-- what lies outside, and what is made anew between
pub joined_again : (start from to end : ℕ) (xs middle : List ℕ) → start ≤ from → to ≤ end
    → take start xs ++ ((from_to start from xs ++ (middle ++ from_to to end xs)) ++ drop end xs)
    ≡ take from xs ++ (middle ++ drop to xs)
joined_again start from to end xs middle h k =
    let e : start + (from - start) ≡ from = omega arith in
    let f : to + (end - to) ≡ end = omega arith in
    let front : take start xs ++ from_to start from xs ≡ take from xs =
    ap (λ zs. zs ++ from_to start from xs) (sym (take-take start from xs h))
    ∙ ap (λ zs. take start (take from xs) ++ zs)
    (sym (drop-take start (from - start) xs) ∙ ap (λ n. drop start (take n xs)) e)
    ∙ take-append-drop start (take from xs) in
    let back : from_to to end xs ++ drop end xs ≡ drop to xs =
    ap (λ zs. from_to to end xs ++ zs) (ap (λ n. drop n xs) (sym f) ∙ sym (drop-drop (end - to) to xs))
    ∙ take-append-drop (end - to) (drop to xs) in
    ap (λ zs. take start xs ++ zs) (append_assoc (from_to start from xs) (middle ++ from_to to end xs) (drop end xs))
    ∙ sym (append_assoc (take start xs) (from_to start from xs) (middle ++ from_to to end xs ++ drop end xs))
    ∙ ap (λ zs. zs ++ (middle ++ from_to to end xs ++ drop end xs)) front
    ∙ ap (λ zs. take from xs ++ zs) (append_assoc middle (from_to to end xs) (drop end xs))
    ∙ ap (λ zs. take from xs ++ (middle ++ zs)) back
