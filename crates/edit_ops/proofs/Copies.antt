-- What a copied range means, and that it may be pasted.
use Rattle.edit_ops.proofs.Common.{◌≡◌, ℕ, ◌+◌, ◌-◌, ◌≤◌, ◌<◌, inl, inr, true, false, List, [], ◌++◌, length, take}
use Rattle.edit_ops.proofs.Common.{drop, replicate, sym, ap, ap₂, ◌∙◌, arith, length-drop, length-append, cases_lt}
use Rattle.edit_ops.proofs.Common.{take_all, drop_all, append-nil, take-append-le, length-replicate, BlockRef, Cell}
use Rattle.edit_ops.proofs.Common.{range_of, Sources, strip_len, strip_cells, part_items, gap_items, AreItems, ItemsFit}
use Rattle.edit_ops.proofs.Common.{Item, rough_items, ItemsShort, length-strip_cells, strip_cells-append}
use Rattle.edit_ops.proofs.Common.{strip_cells-part, ItemsFit-append, ItemsFit-part, strip_cells-gap, ItemsFit-gap}
use Rattle.edit_ops.proofs.Common.{rough-append, rough_middle, rough_only_gap, ItemsShort-append, ItemsShort-part}
use Rattle.edit_ops.proofs.Common.{short_gap, AllOld, IsClip, ItemsFrom}
use Rattle.std.proofs.lemmas.List.{drop-append-le, drop-replicate, take-replicate}
use Rattle.pcm_base.proofs.Pieces.{drop-past}
use Rattle.edit_ops.specs.Strips.{range_items}
use Rattle.edit_ops.proofs.ChangedItems.{AllOld-append, AllOld-part, old_gap}
use Rattle.edit_ops.proofs.Tame.{ItemsFrom-append, ItemsFrom-part, ItemsFrom-gap}
use Rattle.pcm_base.specs.declared.sound.Cell.TheVariants as cell

-- a front and what follows it, where the front is shorter
take_over : {A : Type 0} (n : ℕ) (xs ys : List A) → length xs ≤ n → length xs + length ys ≤ n
    → take n (xs ++ ys) ≡ xs ++ ys
take_over n xs ys h k = take_all n (xs ++ ys) (omega (arith, length-append xs ys))

part_within : (n g : ℕ) (xs : List Cell) → (n ≤ length xs → n - length xs ≡ 0) → (length xs < n → g ≡ n - length xs)
    → take n xs ++ replicate (n - length xs) cell.Gap ≡ take n (xs ++ replicate g cell.Gap)
part_within n g xs a b = elim (cases_lt (length xs) n) [
  | inl h ↦
      ap₂ (λ (ys : List Cell) (k : ℕ). ys ++ replicate k cell.Gap) (take_all n xs (omega arith)) (sym (b h))
      ∙ sym (take_over n xs (replicate g cell.Gap) (omega arith) (omega (arith, length-replicate g cell.Gap, b h)))
  | inr h ↦
      ap (λ k. take n xs ++ replicate k cell.Gap) (a h) ∙ append-nil (take n xs)
      ∙ sym (take-append-le n xs (replicate g cell.Gap) h)
]

part_continued : (from to : ℕ) (cells : List Cell) → take (to - from) (drop from cells)
    ++ replicate (to - from - (length cells - from)) cell.Gap ≡ range_of from to cells
part_continued from to cells = elim (cases_lt (length cells) from) [
  | inl h ↦
      let n = to - from in
      let z : n - (length cells - from) ≡ n = omega arith in
      let k : to - length cells - (from - length cells) ≡ n = omega arith in
      ap₂ (λ (ys : List Cell) (i : ℕ). take n ys ++ replicate i cell.Gap) (drop_all from cells (omega arith)) z
      ∙ ap (λ (ys : List Cell). ys ++ replicate n cell.Gap) (take_all n [] (omega arith))
      ∙ sym (ap (take n) (drop-past cells (replicate (to - length cells) cell.Gap) from (omega arith)
      ∙ drop-replicate (from - length cells) (to - length cells) cell.Gap
      ∙ ap (λ i. replicate i cell.Gap) k)
      ∙ take-replicate n n cell.Gap (omega arith))
  | inr h ↦
      let e = length-drop from cells in
      ap (λ i. take (to - from) (drop from cells) ++ replicate (to - from - i) cell.Gap) (sym e)
      ∙ part_within (to - from) (to - length cells) (drop from cells) (λ a. omega arith) (λ a. omega (arith, e))
      ∙ sym (ap (take (to - from)) (drop-append-le from cells (replicate (to - length cells) cell.Gap) h))
]

pub cells_range : (src : Sources) (from to : ℕ) (xs : List Item)
    → strip_cells src (range_items from to xs) ≡ range_of from to (strip_cells src xs)
cells_range src from to xs =
    let k = to - from - (strip_len xs - from) in
    strip_cells-append src (part_items from (to - from) xs) (gap_items k)
    ∙ ap₂ ◌++◌ (strip_cells-part src from (to - from) xs) (strip_cells-gap src k
    ∙ ap (λ n. replicate (to - from - (n - from)) cell.Gap) (sym (length-strip_cells src xs)))
    ∙ part_continued from to (strip_cells src xs)

pub clip_range : (m from to : ℕ) (xs : List Item) → AreItems xs → AllOld xs → ItemsFit m xs → ItemsShort m xs
    → rough_items m true true xs ≡ 0 → IsClip m (range_items from to xs)
clip_range m from to xs v o f s z =
    let p = part_items from (to - from) xs in
    let k = to - from - (strip_len xs - from) in
    record {
      old = AllOld-append p (gap_items k) (AllOld-part from (to - from) xs o) (old_gap k);
      fit = ItemsFit-append m p (gap_items k) (ItemsFit-part m from (to - from) xs f) (ItemsFit-gap m k);
      short = ItemsShort-append m p (gap_items k) (ItemsShort-part m from (to - from) xs s) (short_gap m k);
      few_rough = omega (
        arith,
        rough-append m false false p (gap_items k),
        rough_only_gap m false false k,
        rough_middle m true true from (to - from) xs v,
        z,
      );
    }

pub from_range : (old : List BlockRef) (from to : ℕ) (xs : List Item) → AreItems xs → ItemsFrom old 0 xs
    → ItemsFrom old 0 (range_items from to xs)
from_range old from to xs v f =
    let k = to - from - (strip_len xs - from) in
    ItemsFrom-append old 0 (part_items from (to - from) xs) (gap_items k) (ItemsFrom-part old 0 from (to - from) xs v f)
    (ItemsFrom-gap old 0 k)
