-- What the strips of edits mean as cells.
use Rattle.edit_ops.proofs.Common.{◌≡◌, ℕ, zero, suc, ◌-◌, inl, inr, min, List, ◌++◌, length, map, take, drop}
use Rattle.edit_ops.proofs.Common.{replicate, refl, sym, ap, ap₂, ◌∙◌, arith, length-drop, take_all, append-nil}
use Rattle.edit_ops.proofs.Common.{cases_lt, part, emptied, continued, trimmed, Cell, Sources, stretch, Item, strip_len}
use Rattle.edit_ops.proofs.Common.{strip_cells, part_items, gap_items, length-strip_cells, strip_cells-append}
use Rattle.edit_ops.proofs.Common.{strip_cells-part, strip_cells-gap, rest_items, front_items, without, with_gaps}
use Rattle.edit_ops.proofs.Common.{only_part, with_inserted, given_items, with_change, cut_items, cut_cells, AllOld}
use Rattle.edit_ops.proofs.Common.{Cutting, Delete, SplitDelete, Trim, Change, cell_change, item_change}
use Rattle.std.proofs.lemmas.List.{length-take}
use Rattle.std.proofs.{Math.Nat.sub-zero}
use Rattle.pcm_base.specs.Edits.{as_cells}
use Rattle.edit_ops.proofs.ChangedItems.{strip_cells_change, AllOld-part}
use Rattle.edit_ops.proofs.CellLists.{map_gaps, front_within, front_past}
use Rattle.pcm_base.specs.declared.sound.Cell.TheVariants as cell

pub rest_cells : (src : Sources) (at : ℕ) (xs : List Item)
    → strip_cells src (rest_items at xs) ≡ drop at (strip_cells src xs)
rest_cells src at xs =
    strip_cells-part src at (strip_len xs) xs
    ∙ take_all (strip_len xs) (drop at (strip_cells src xs))
    (omega (arith, length-drop at (strip_cells src xs), length-strip_cells src xs))

pub front_cells : (src : Sources) (at : ℕ) (xs : List Item)
    → strip_cells src (part_items 0 at xs) ≡ take at (strip_cells src xs)
front_cells src at xs = strip_cells-part src 0 at xs

cells_without : (src : Sources) (from to : ℕ) (xs : List Item)
    → strip_cells src (without from to xs) ≡ take from (strip_cells src xs) ++ drop to (strip_cells src xs)
cells_without src from to xs = strip_cells-append src (part_items 0 from xs) (rest_items to xs)
    ∙ ap₂ ◌++◌ (front_cells src from xs) (rest_cells src to xs)

three_cells : (src : Sources) (xs ys zs : List Item)
    → strip_cells src (xs ++ ys ++ zs) ≡ strip_cells src xs ++ strip_cells src ys ++ strip_cells src zs
three_cells src xs ys zs =
    strip_cells-append src (xs ++ ys) zs ∙ ap (λ cs. cs ++ strip_cells src zs) (strip_cells-append src xs ys)

cells_with_gaps : (src : Sources) (from to : ℕ) (xs : List Item)
    → strip_cells src (with_gaps from to xs) ≡ take from (strip_cells src xs)
    ++ map emptied (part from to (strip_cells src xs)) ++ drop to (strip_cells src xs)
cells_with_gaps src from to xs =
    let cells = strip_cells src xs in
    let n = min (to - from) (strip_len xs - from) in
    let len : n ≡ length (part from to cells) =
    omega (arith, length-take (to - from) (drop from cells), length-drop from cells, length-strip_cells src xs) in
    three_cells src (part_items 0 from xs) (gap_items n) (rest_items to xs)
    ∙ ap₂ ◌++◌
    (ap₂ ◌++◌ (front_cells src from xs)
    (strip_cells-gap src n ∙ ap (λ k. replicate k cell.Gap) len ∙ sym (map_gaps (part from to cells))))
    (rest_cells src to xs)

cells_only_part : (src : Sources) (from to : ℕ) (xs : List Item)
    → strip_cells src (only_part from to xs) ≡ replicate from cell.Gap ++ part from to (strip_cells src xs)
cells_only_part src from to xs =
    strip_cells-append src (gap_items from) (part_items from (to - from) xs)
    ∙ ap₂ ◌++◌ (strip_cells-gap src from) (strip_cells-part src from (to - from) xs)

pub cells_cut : (src : Sources) (cut : Cutting) (from to : ℕ) (xs : List Item)
    → trimmed (strip_cells src (cut_items cut from to xs)) ≡ cut_cells cut from to (strip_cells src xs)
cells_cut src Delete from to xs = ap trimmed (cells_without src from to xs)
cells_cut src SplitDelete from to xs = ap trimmed (cells_with_gaps src from to xs)
cells_cut src Trim from to xs = ap trimmed (cells_only_part src from to xs)

pub cells_with_change : (src : Sources) (change : Change) (from to : ℕ) (xs : List Item) → AllOld xs
    → strip_cells src (with_change change from to xs) ≡ take from (strip_cells src xs)
    ++ map (cell_change change) (part from to (strip_cells src xs)) ++ drop to (strip_cells src xs)
cells_with_change src change from to xs o =
    three_cells src (part_items 0 from xs) (map (item_change change) (part_items from (to - from) xs))
    (rest_items to xs)
    ∙ ap₂ ◌++◌
    (ap₂ ◌++◌ (front_cells src from xs)
    (strip_cells_change src change (part_items from (to - from) xs) (AllOld-part from (to - from) xs o)
    ∙ ap (map (cell_change change)) (strip_cells-part src from (to - from) xs)))
    (rest_cells src to xs)

front_continued : (at : ℕ) (xs : List Cell)
    → take at xs ++ replicate (at - length xs) cell.Gap ≡ take at (continued at xs)
front_continued at xs = elim (cases_lt at (length xs)) [
  | inl a ↦
      let z : at - length xs ≡ 0 = omega arith in
      ap (λ n. take at xs ++ replicate n cell.Gap) z ∙ append-nil (take at xs) ∙ sym (front_within at xs (omega arith))
  | inr a ↦ ap (λ ys. ys ++ replicate (at - length xs) cell.Gap) (take_all at xs a) ∙ sym (front_past at xs a)
]

pub cells_front : (src : Sources) (at : ℕ) (xs : List Item)
    → strip_cells src (front_items at xs) ≡ take at (continued at (strip_cells src xs))
cells_front src at xs =
    strip_cells-append src (part_items 0 at xs) (gap_items (at - strip_len xs))
    ∙ ap₂ ◌++◌ (front_cells src at xs) (strip_cells-gap src (at - strip_len xs)
    ∙ ap (λ n. replicate (at - n) cell.Gap) (sym (length-strip_cells src xs)))
    ∙ front_continued at (strip_cells src xs)

pub cells_with_inserted : (src : Sources) (at : ℕ) (ys xs : List Item)
    → strip_cells src (with_inserted at ys xs) ≡ take at (continued at (strip_cells src xs)) ++ strip_cells src ys
    ++ drop at (strip_cells src xs)
cells_with_inserted src at ys xs =
    three_cells src (front_items at xs) ys (rest_items at xs)
    ∙ ap₂ ◌++◌ (ap (λ cs. cs ++ strip_cells src ys) (cells_front src at xs)) (rest_cells src at xs)

pub cells_given : (src : Sources) (count : ℕ)
    → strip_cells src (given_items count) ≡ as_cells (stretch src.given 0 count)
cells_given src zero = refl
cells_given src (suc n) = append-nil _ ∙ ap (λ k. as_cells (stretch src.given 0 k)) (sub-zero (suc n))
