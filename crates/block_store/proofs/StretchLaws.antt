-- Stretches of the samples of a block of the disk, and parts of lists, for the layers above.
use Rattle.std.proofs.Common.{◌≡◌, ℕ, ◌+◌, ◌-◌, ◌≤◌, ℤ, pos, List, [], ◌++◌, length, get_or, take, drop, min, Option}
use Rattle.std.proofs.Common.{Some, sym, ap, ◌∙◌, arith, length-drop}
use Rattle.std.proofs.lemmas.List.{length-take, take-append-drop, take-take, drop-drop, drop-take}
use Rattle.std.specs.Prelude.{unwrap_or}
use Rattle.disk_model.specs.Disk.{Files}
use Rattle.pcm_base.specs.{Edits.part, Pieces.stretch}
use Rattle.pcm_base.proofs.Pieces.{part-stretch, stretch_list}
use Rattle.sample_block.specs.{Blocks.blocks, Sources.samples_on}

-- a stretch of the items of a list
pub stretch_part : (xs : List ℤ) (from n : ℕ) → from + n ≤ length xs
    → stretch (λ i. get_or xs i (pos 0)) from n ≡ take n (drop from xs)
stretch_part xs from n h =
    let f : ℕ → ℤ = λ i. get_or xs i (pos 0) in
    let e : from ≡ 0 + from = omega arith in
    ap (λ (k : ℕ). stretch f k n) e ∙ sym (part-stretch f 0 from n (length xs) h)
    ∙ ap (λ (ys : List ℤ). take n (drop from ys)) (stretch_list xs (pos 0))

-- and of a block of the disk
pub block_stretch : (files : Files) (id from n : ℕ) (xs : List ℤ) → blocks files id ≡ Some xs → from + n ≤ length xs
    → stretch (samples_on files id) from n ≡ take n (drop from xs)
block_stretch files id from n xs e h =
    ap (λ (o : Option (List ℤ)). stretch (λ i. get_or (unwrap_or o []) i (pos 0)) from n) e ∙ stretch_part xs from n h

-- how many items a part of a list has
pub length-part : {A : Type 0} (from to : ℕ) (xs : List A) → length (part from to xs) ≡ min (length xs) to - from
length-part from to xs = omega (arith, length-take (to - from) (drop from xs), length-drop from xs)

-- parts that follow one another
pub part-join : {A : Type 0} (a b c : ℕ) (xs : List A) → a ≤ b → b ≤ c → part a b xs ++ part b c xs ≡ part a c xs
part-join {A = A} a b c xs low high =
    let zs : List A = drop a xs in
    let here : a + (b - a) ≡ b = omega arith in
    let there : (b - a) + (c - b) ≡ c - a = omega arith in
    let gone : drop (b - a) (drop a xs) ≡ drop b xs = drop-drop (b - a) a xs ∙ ap (λ k. drop k xs) here in
    ap (λ ys. take (b - a) zs ++ take (c - b) ys) (sym gone)
    ∙ ap (λ ys. ys ++ take (c - b) (drop (b - a) zs)) (sym (take-take (b - a) (c - a) zs (omega arith)))
    ∙ ap (λ ys. take (b - a) (take (c - a) zs) ++ ys) (sym (drop-take (b - a) (c - b) zs))
    ∙ ap (λ k. take (b - a) (take (c - a) zs) ++ drop (b - a) (take k zs)) there
    ∙ take-append-drop (b - a) (take (c - a) zs)
