-- Lemmas on cells.
use Rattle.edit_ops.proofs.Common.{◌≡◌, ℕ, suc, inl, inr, ◌+◌, ◌-◌, ◌≤◌, List, [], ◌∷◌, ◌++◌, length, map, take, drop}
use Rattle.edit_ops.proofs.Common.{replicate, refl, sym, ap, ap₂, ◌∙◌, append_assoc, append-nil, arith, cases_lt, drop_all}
use Rattle.edit_ops.proofs.Common.{take-append-le, take_all, length-append, length-replicate, Cell, continued, emptied}
use Rattle.edit_ops.proofs.Common.{trimmed}
use Rattle.std.proofs.lemmas.List.{replicate-append-replicate}
use Rattle.pcm_base.specs.{Cells.joined, Edits.inserted, declared.sound.Cell.TheVariants.Gap}
use Rattle.pcm_base.specs.declared.sound.Cell.TheVariants.{Sample}
use Rattle.model_laws.proofs.Trimming.{length-trimmed}

pub map_gaps : (xs : List Cell) → map emptied xs ≡ replicate (length xs) Gap
map_gaps [] = refl
map_gaps (x ∷ xs) = ap (λ ys. Gap ∷ ys) (map_gaps xs)

-- the front of a list that is continued by gaps
pub front_within : (at : ℕ) (xs : List Cell) → at ≤ length xs → take at (continued at xs) ≡ take at xs
front_within at xs h = take-append-le at xs (replicate (at - length xs) Gap) h

pub front_past : (at : ℕ) (xs : List Cell) → length xs ≤ at
    → take at (continued at xs) ≡ xs ++ replicate (at - length xs) Gap
front_past at xs h = take_all at (continued at xs)
    (omega (arith, length-append xs (replicate (at - length xs) Gap), length-replicate (at - length xs) Gap))

pub continued_same : (n : ℕ) (xs : List Cell) → n ≤ length xs → continued n xs ≡ xs
continued_same n xs h =
    let z : n - length xs ≡ 0 = omega (arith, h) in
    ap (λ k. xs ++ replicate k Gap) z ∙ append-nil xs

pub continued_after : (n : ℕ) (xs ys : List Cell) → continued (length xs + n) (xs ++ ys) ≡ xs ++ continued n ys
continued_after n xs ys =
    let k : length xs + n - length (xs ++ ys) ≡ n - length ys = omega (arith, length-append xs ys) in
    ap (λ i. xs ++ ys ++ replicate i Gap) k ∙ append_assoc xs ys (replicate (n - length ys) Gap)

-- once continued
pub inserted_continued : (n at : ℕ) (gs xs : List Cell) → n ≤ at → inserted at gs (continued n xs) ≡ inserted at gs xs
inserted_continued n at gs xs h = elim (cases_lt (length xs) n) [
  | inl l ↦
      let more = replicate (n - length xs) Gap in
      let long = length-append xs more in
      let size = length-replicate (n - length xs) Gap in
      let k : n - length xs + (at - length (continued n xs)) ≡ at - length xs = omega (arith, long, size, l, h) in
      let front : take at (continued at (continued n xs)) ≡ take at (continued at xs) =
      front_past at (continued n xs) (omega (arith, long, size, l, h))
      ∙ append_assoc xs more (replicate (at - length (continued n xs)) Gap)
      ∙ ap (λ ys. xs ++ ys) (replicate-append-replicate (n - length xs) (at - length (continued n xs)) Gap
      ∙ ap (λ i. replicate i Gap) k)
      ∙ sym (front_past at xs (omega (arith, l, h))) in
      let back : drop at (continued n xs) ≡ drop at xs =
      drop_all at (continued n xs) (omega (arith, long, size, l, h)) ∙ sym (drop_all at xs (omega (arith, l, h))) in
      ap₂ (λ (ys : List Cell) (zs : List Cell). trimmed (ys ++ gs ++ zs)) front back
  | inr l ↦ ap (inserted at gs) (continued_same n xs l)
]

-- what is left of some cells, continued by gaps up to their number
regrown_joined : (x : Cell) (xs ys : List Cell) → length ys ≤ length xs → ys ++ replicate (length xs - length ys) Gap ≡ xs
    → joined x ys ++ replicate (suc (length xs) - length (joined x ys)) Gap ≡ x ∷ xs
regrown_joined Gap xs [] l e =
    let k : suc (length xs) - 0 ≡ suc (length xs - 0) = omega arith in
    ap (λ i. replicate i Gap) k ∙ ap (λ zs. Gap ∷ zs) e
regrown_joined Gap xs (y ∷ ys) l e =
    let k : suc (length xs) - suc (suc (length ys)) ≡ length xs - suc (length ys) = omega arith in
    ap (λ i. Gap ∷ y ∷ ys ++ replicate i Gap) k ∙ ap (λ zs. Gap ∷ zs) e
regrown_joined (Sample s) xs ys l e =
    let k : suc (length xs) - suc (length ys) ≡ length xs - length ys = omega arith in
    ap (λ i. Sample s ∷ ys ++ replicate i Gap) k ∙ ap (λ zs. Sample s ∷ zs) e

pub regrown : (xs : List Cell) → trimmed xs ++ replicate (length xs - length (trimmed xs)) Gap ≡ xs
regrown [] = refl
regrown (x ∷ xs) = regrown_joined x xs (trimmed xs) (length-trimmed xs) (regrown xs)
