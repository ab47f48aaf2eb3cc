-- What the strips of pastes are, and what they mean.
use Rattle.edit_ops.proofs.Common.{◌≡◌, ℕ, ◌+◌, ◌-◌, true, false, List, [], ◌∷◌, ◌++◌, take, drop, refl, sym, ap, ap₂}
use Rattle.edit_ops.proofs.Common.{◌∙◌, arith, Contains-append_left, Contains-append_right, Contains, Old, Scaled, Zero}
use Rattle.edit_ops.proofs.Common.{Given, trimmed, continued, BlockRef, Piece, Cell, Sources, Placing, placed, IsFrom}
use Rattle.edit_ops.proofs.Common.{Item, Gap, Sound, strip_len, strip_cells, part_items, gap_items, AreItems}
use Rattle.edit_ops.proofs.Common.{strip_blocks, length-strip_cells, strip_cells-append, ItemsFit-append, ItemsFit-part}
use Rattle.edit_ops.proofs.Common.{ItemsFit-gap, rough-append, rough_front, rough_back, rough_only_gap, rough_three}
use Rattle.edit_ops.proofs.Common.{ItemsShort-append, ItemsShort-part, short_gap, rest_items, front_items, IsOld}
use Rattle.edit_ops.proofs.Common.{AllOld, IsClip, IsItemFrom, ItemsFrom}
use Rattle.pcm_base.specs.declared.edits.Placing.TheVariants.{Insert, Cover}
use Rattle.clip_track.specs.Items.{item_blocks}
use Rattle.edit_ops.specs.Placing.{placed_items}
use Rattle.edit_ops.proofs.StripCells.{cells_front, rest_cells}
use Rattle.edit_ops.proofs.Tame.{Tame, ItemsFrom-append, ItemsFrom-part, ItemsFrom-gap}

-- more blocks to come from
pub piece_from_more : (old more : List BlockRef) (count : ℕ) (p : Piece)
    → ((b : BlockRef) → Contains old b → Contains more b) → IsFrom old count p → IsFrom more count p
piece_from_more old more count (Old b from to) g f = g b f
piece_from_more old more count (Scaled b from to gain) g f = g b f
piece_from_more old more count (Zero len) g f = f
piece_from_more old more count (Given from to) g f = f

items_from_more : (old more : List BlockRef) (count : ℕ) (xs : List Item)
    → ((b : BlockRef) → Contains old b → Contains more b) → ItemsFrom old count xs → ItemsFrom more count xs
items_from_more old more count [] g f = tt
items_from_more old more count (Gap n ∷ xs) g f = (tt, items_from_more old more count xs g f.1)
items_from_more old more count (Sound p ∷ xs) g f =
    (piece_from_more old more count p g f.0, items_from_more old more count xs g f.1)

-- old pieces come from the blocks that they name
old_from : (x : Item) (more : List BlockRef) → IsOld x → ((b : BlockRef) → Contains (item_blocks x) b → Contains more b)
    → IsItemFrom more 0 x
old_from (Gap n) more o g = tt
old_from (Sound (Old b from to)) more o g = g b (0, omega arith, refl)
old_from (Sound (Scaled b from to gain)) more o g = absurd o
old_from (Sound (Zero len)) more o g = absurd o
old_from (Sound (Given from to)) more o g = absurd o

strip_from : (xs : List Item) (more : List BlockRef) → AllOld xs
    → ((b : BlockRef) → Contains (strip_blocks xs) b → Contains more b) → ItemsFrom more 0 xs
strip_from [] more o g = tt
strip_from (x ∷ xs) more o g = (
  old_from x more o.0 (λ b h. g b (Contains-append_left (item_blocks x) (strip_blocks xs) b h)),
  strip_from xs more o.1 (λ b h. g b (Contains-append_right (item_blocks x) (strip_blocks xs) b h)),
)

-- a clip between the front of a track and its rest from a place on
abbrev around : ℕ → ℕ → List Item → List Item → List Item
around at k ys xs = front_items at xs ++ ys ++ rest_items k xs

tame_around : (m : ℕ) (old : List BlockRef) (at k : ℕ) (ys xs : List Item) → AreItems xs → Tame m old 0 xs → IsClip m ys
    → Tame m (old ++ strip_blocks ys) 4 (around at k ys xs)
tame_around m old at k ys xs v t c =
    let a = part_items 0 at xs in
    let n = at - strip_len xs in
    let g = gap_items n in
    let r = rest_items k xs in
    let more = old ++ strip_blocks ys in
    let f = items_from_more old more 0 xs (λ b h. Contains-append_left old (strip_blocks ys) b h) t.origin in
    record {
      fit = ItemsFit-append m (a ++ g ++ ys) r (ItemsFit-append m (a ++ g) ys (ItemsFit-append m a g
          (ItemsFit-part m 0 at xs t.fit) (ItemsFit-gap m n)) c.fit) (ItemsFit-part m k (strip_len xs) xs t.fit);
      short = ItemsShort-append m (a ++ g ++ ys) r (ItemsShort-append m (a ++ g) ys (ItemsShort-append m a g
          (ItemsShort-part m 0 at xs t.short) (short_gap m n)) c.short) (ItemsShort-part m k (strip_len xs) xs t.short);
      origin = ItemsFrom-append more 0 (a ++ g ++ ys) r
          (ItemsFrom-append more 0 (a ++ g) ys
          (ItemsFrom-append more 0 a g (ItemsFrom-part more 0 0 at xs v f) (ItemsFrom-gap more 0 n))
          (strip_from ys more c.old (λ b h. Contains-append_right old (strip_blocks ys) b h)))
          (ItemsFrom-part more 0 k (strip_len xs) xs v f);
      few_rough = omega (
        arith,
        rough_three m (a ++ g) ys r,
        rough-append m true false a g,
        rough_only_gap m false false n,
        rough_front m true true at xs v,
        rough_back m true true k (strip_len xs) xs v (omega arith),
        t.few_rough,
        c.few_rough,
      );
    }

pub tame_placed : (m : ℕ) (old : List BlockRef) (placing : Placing) (at : ℕ) (ys xs : List Item) → AreItems xs
    → Tame m old 0 xs → IsClip m ys → Tame m (old ++ strip_blocks ys) 4 (placed_items placing at ys xs)
tame_placed m old Insert at ys xs v t c = tame_around m old at at ys xs v t c
tame_placed m old Cover at ys xs v t c = tame_around m old at (at + strip_len ys) ys xs v t c

cells_around : (src : Sources) (at k : ℕ) (ys xs : List Item) → strip_cells src (around at k ys xs)
    ≡ take at (continued at (strip_cells src xs)) ++ strip_cells src ys ++ drop k (strip_cells src xs)
cells_around src at k ys xs =
    strip_cells-append src (front_items at xs ++ ys) (rest_items k xs)
    ∙ ap₂ ◌++◌ (strip_cells-append src (front_items at xs) ys
    ∙ ap (λ (cs : List Cell). cs ++ strip_cells src ys) (cells_front src at xs)) (rest_cells src k xs)

pub cells_placed : (src : Sources) (placing : Placing) (at : ℕ) (ys xs : List Item) → trimmed
    (strip_cells src (placed_items placing at ys xs)) ≡ placed placing at (strip_cells src ys) (strip_cells src xs)
cells_placed src Insert at ys xs = ap trimmed (cells_around src at at ys xs)
cells_placed src Cover at ys xs =
    let cells = strip_cells src xs in
    ap trimmed (cells_around src at (at + strip_len ys) ys xs
    ∙ ap (λ n. take at (continued at cells) ++ strip_cells src ys ++ drop (at + n) cells)
    (sym (length-strip_cells src ys)))
