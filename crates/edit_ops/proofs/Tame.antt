-- What the strips of edits are: parts of old blocks, few of which have to be laid out anew.
use Rattle.edit_ops.proofs.Common.{◌≡◌, ℕ, zero, suc, ◌+◌, ◌-◌, ◌≤◌, inl, inr, min, true, false, List, [], ◌∷◌, ◌++◌}
use Rattle.edit_ops.proofs.Common.{map, refl, sym, subst, arith, cases_lt, Contains-append_left, Contains-append_right}
use Rattle.edit_ops.proofs.Common.{Contains, BlockRef, Piece, Old, Scaled, Zero, Given, IsFrom, Gap, Sound, clip_end}
use Rattle.edit_ops.proofs.Common.{sound_items, items_from, layout_blocks, item_len, strip_len, part_of_item}
use Rattle.edit_ops.proofs.Common.{part_items, gap_items, IsItem, AreItems, ItemsFit, rough_items, ItemsShort, Item}
use Rattle.edit_ops.proofs.Common.{Clip, part_none, part_past, part_within, ItemsFit-append, ItemsFit-part}
use Rattle.edit_ops.proofs.Common.{ItemsFit-gap, rough-append, rough_front, rough_back, rough_middle, rough_only_gap}
use Rattle.edit_ops.proofs.Common.{rough_three, ItemsShort-append, ItemsShort-part, short_gap, piece_change}
use Rattle.edit_ops.proofs.Common.{item_change, rest_items, front_items, without, with_gaps, only_part, with_inserted}
use Rattle.edit_ops.proofs.Common.{given_items, with_change, cut_items, IsItemFrom, ItemsFrom, Cutting, Delete}
use Rattle.edit_ops.proofs.Common.{SplitDelete, Trim, Change, Silence, Gain}
use Rattle.block_sequence.proofs.Origins.{IsFrom-part}
use Rattle.clip_track.proofs.RoughStrips.{rough_end}
use Rattle.edit_ops.proofs.ChangedItems.{ItemsFit_change}

-- at block size m the items are parts of these blocks, of at most m samples, and at most n are to be laid out anew
pub record Tame (m : ℕ) (old : List BlockRef) (n : ℕ) (xs : List Item) : Type 0 where
  pub fit : ItemsFit m xs
  pub short : ItemsShort m xs
  pub origin : ItemsFrom old 0 xs
  pub few_rough : rough_items m true true xs ≤ n

-- where items come from
pub ItemsFrom-append : (old : List BlockRef) (count : ℕ) (xs ys : List Item) → ItemsFrom old count xs
    → ItemsFrom old count ys → ItemsFrom old count (xs ++ ys)
ItemsFrom-append old count [] ys a b = b
ItemsFrom-append old count (x ∷ xs) ys a b = (a.0, ItemsFrom-append old count xs ys a.1 b)

item_from_part : (old : List BlockRef) (count skip n : ℕ) (x : Item) → skip + n ≤ item_len x → IsItem x
    → IsItemFrom old count x → IsItemFrom old count (part_of_item skip n x)
item_from_part old count skip n (Gap k) h v f = tt
item_from_part old count skip n (Sound p) h v f = IsFrom-part old count skip n p h v.1 f

pub ItemsFrom-part : (old : List BlockRef) (count skip left : ℕ) (xs : List Item) → AreItems xs → ItemsFrom old count xs
    → ItemsFrom old count (part_items skip left xs)
ItemsFrom-part old count skip zero xs v f = rw (part_none skip xs) tt
ItemsFrom-part old count skip (suc left) [] v f = tt
ItemsFrom-part old count skip (suc left) (x ∷ xs) v f = elim (cases_lt skip (item_len x)) [
  | inl a ↦ rw (part_within skip (suc left) x xs (omega arith) a) (
    item_from_part old count skip (min (suc left) (item_len x - skip)) x (omega arith) v.0 f.0,
    ItemsFrom-part old count 0 (suc left - min (suc left) (item_len x - skip)) xs v.1 f.1,
  )
  | inr a ↦ rw (part_past skip (suc left) x xs (omega arith) a)
      (ItemsFrom-part old count (skip - item_len x) (suc left) xs v.1 f.1)
]

pub ItemsFrom-gap : (old : List BlockRef) (count n : ℕ) → ItemsFrom old count (gap_items n)
ItemsFrom-gap old count zero = tt
ItemsFrom-gap old count (suc n) = (tt, tt)

sound_from : (old bs : List BlockRef) (count : ℕ) → ((b : BlockRef) → Contains bs b → Contains old b)
    → ItemsFrom old count (sound_items bs)
sound_from old [] count f = tt
sound_from old (b ∷ bs) count f = (
  f b (Contains-append_left (b ∷ []) bs b (0, omega arith, refl)),
  sound_from old bs count (λ c h. f c (Contains-append_right (b ∷ []) bs c h)),
)

clips_from : (old : List BlockRef) (count at : ℕ) (cs : List Clip)
    → ((b : BlockRef) → Contains (layout_blocks cs) b → Contains old b) → ItemsFrom old count (items_from at cs)
clips_from old count at [] f = tt
clips_from old count at (c ∷ cs) f =
    ItemsFrom-append old count (gap_items (c.start - at) ++ sound_items c.blocks) (items_from (clip_end c) cs)
    (ItemsFrom-append old count (gap_items (c.start - at)) (sound_items c.blocks)
    (ItemsFrom-gap old count (c.start - at))
    (sound_from old c.blocks count (λ b h. f b (Contains-append_left c.blocks (layout_blocks cs) b h))))
    (clips_from old count (clip_end c) cs (λ b h. f b (Contains-append_right c.blocks (layout_blocks cs) b h)))

-- a layout's strip comes from its blocks
pub ItemsFrom-layout : (count : ℕ) (cs : List Clip) → ItemsFrom (layout_blocks cs) count (items_from 0 cs)
ItemsFrom-layout count cs = clips_from (layout_blocks cs) count 0 cs (λ b h. h)

-- a delete
tame_without : (m : ℕ) (old : List BlockRef) (from to : ℕ) (xs : List Item) → AreItems xs → Tame m old 0 xs
    → Tame m old 2 (without from to xs)
tame_without m old from to xs v t = record {
  fit = ItemsFit-append m (part_items 0 from xs) (rest_items to xs) (ItemsFit-part m 0 from xs t.fit)
      (ItemsFit-part m to (strip_len xs) xs t.fit);
  short = ItemsShort-append m (part_items 0 from xs) (rest_items to xs) (ItemsShort-part m 0 from xs t.short)
      (ItemsShort-part m to (strip_len xs) xs t.short);
  origin = ItemsFrom-append old 0 (part_items 0 from xs) (rest_items to xs) (ItemsFrom-part old 0 0 from xs v t.origin)
      (ItemsFrom-part old 0 to (strip_len xs) xs v t.origin);
  few_rough = omega (
    arith,
    rough-append m true true (part_items 0 from xs) (rest_items to xs),
    rough_front m true true from xs v,
    rough_back m true true to (strip_len xs) xs v (omega arith),
    t.few_rough,
  );
}

-- a range made gaps
tame_with_gaps : (m : ℕ) (old : List BlockRef) (from to : ℕ) (xs : List Item) → AreItems xs → Tame m old 0 xs
    → Tame m old 2 (with_gaps from to xs)
tame_with_gaps m old from to xs v t =
    let a = part_items 0 from xs in
    let n = min (to - from) (strip_len xs - from) in
    let g = gap_items n in
    let r = rest_items to xs in
    record {
      fit = ItemsFit-append m (a ++ g) r (ItemsFit-append m a g (ItemsFit-part m 0 from xs t.fit) (ItemsFit-gap m n))
          (ItemsFit-part m to (strip_len xs) xs t.fit);
      short =
          ItemsShort-append m (a ++ g) r (ItemsShort-append m a g (ItemsShort-part m 0 from xs t.short) (short_gap m n))
          (ItemsShort-part m to (strip_len xs) xs t.short);
      origin = ItemsFrom-append old 0 (a ++ g) r (ItemsFrom-append old 0 a g (ItemsFrom-part old 0 0 from xs v t.origin)
          (ItemsFrom-gap old 0 n)) (ItemsFrom-part old 0 to (strip_len xs) xs v t.origin);
      few_rough = omega (
        arith,
        rough_three m a g r,
        rough_only_gap m false false n,
        rough_front m true true from xs v,
        rough_back m true true to (strip_len xs) xs v (omega arith),
        t.few_rough,
      );
    }

-- a trim
tame_only_part : (m : ℕ) (old : List BlockRef) (from to : ℕ) (xs : List Item) → AreItems xs → Tame m old 0 xs
    → Tame m old 2 (only_part from to xs)
tame_only_part m old from to xs v t =
    let a = gap_items from in
    let p = part_items from (to - from) xs in
    record {
      fit = ItemsFit-append m a p (ItemsFit-gap m from) (ItemsFit-part m from (to - from) xs t.fit);
      short = ItemsShort-append m a p (short_gap m from) (ItemsShort-part m from (to - from) xs t.short);
      origin =
          ItemsFrom-append old 0 a p (ItemsFrom-gap old 0 from) (ItemsFrom-part old 0 from (to - from) xs v t.origin);
      few_rough = omega (
        arith,
        rough-append m true true a p,
        rough_only_gap m true false from,
        rough_end m false p,
        rough_middle m true true from (to - from) xs v,
        t.few_rough,
      );
    }

tame_cut_items : (m : ℕ) (old : List BlockRef) (cut : Cutting) (from to : ℕ) (xs : List Item) → AreItems xs
    → Tame m old 0 xs → Tame m old 2 (cut_items cut from to xs)
tame_cut_items m old Delete = tame_without m old
tame_cut_items m old SplitDelete = tame_with_gaps m old
tame_cut_items m old Trim = tame_only_part m old

-- the strip of a layout, as its contract says it
pub tame_layout : (m : ℕ) (cs : List Clip) (xs : List Item) → xs ≡ items_from 0 cs → ItemsFit m xs → ItemsShort m xs
    → rough_items m true true xs ≡ 0 → Tame m (layout_blocks cs) 0 xs
tame_layout m cs xs e fit short smooth =
    let P : List Item → Type 0 = ItemsFrom (layout_blocks cs) 0 in
    record { fit = fit; short = short; origin = subst P (sym e) (ItemsFrom-layout 0 cs); few_rough = omega arith }

-- that strip, cut
pub tame_cut : (m : ℕ) (cut : Cutting) (from to : ℕ) (cs : List Clip) (xs ys : List Item) → xs ≡ items_from 0 cs
    → AreItems xs → ItemsFit m xs → ItemsShort m xs → rough_items m true true xs ≡ 0 → ys ≡ cut_items cut from to xs
    → Tame m (layout_blocks cs) 2 ys
tame_cut m cut from to cs xs ys e v fit short smooth is =
    let P : List Item → Type 0 = Tame m (layout_blocks cs) 2 in
    subst P (sym is) (tame_cut_items m _ cut from to xs v (tame_layout m cs xs e fit short smooth))

-- an insertion
pub fit_inserted : (m at : ℕ) (ys xs : List Item) → ItemsFit m xs → ItemsFit m ys → ItemsFit m (with_inserted at ys xs)
fit_inserted m at ys xs f g =
    ItemsFit-append m (front_items at xs ++ ys) (rest_items at xs)
    (ItemsFit-append m (front_items at xs) ys
    (ItemsFit-append m (part_items 0 at xs) (gap_items (at - strip_len xs)) (ItemsFit-part m 0 at xs f)
    (ItemsFit-gap m (at - strip_len xs))) g)
    (ItemsFit-part m at (strip_len xs) xs f)

pub from_inserted : (old : List BlockRef) (count at : ℕ) (ys xs : List Item) → AreItems xs → ItemsFrom old count xs
    → ItemsFrom old count ys → ItemsFrom old count (with_inserted at ys xs)
from_inserted old count at ys xs v f g =
    ItemsFrom-append old count (front_items at xs ++ ys) (rest_items at xs)
    (ItemsFrom-append old count (front_items at xs) ys
    (ItemsFrom-append old count (part_items 0 at xs) (gap_items (at - strip_len xs))
    (ItemsFrom-part old count 0 at xs v f) (ItemsFrom-gap old count (at - strip_len xs))) g)
    (ItemsFrom-part old count at (strip_len xs) xs v f)

pub given_from : (old : List BlockRef) (count : ℕ) → ItemsFrom old count (given_items count)
given_from old zero = tt
given_from old (suc n) = (omega arith, tt)

pub given_fit : (m count : ℕ) → ItemsFit m (given_items count)
given_fit m zero = tt
given_fit m (suc n) = (tt, tt)

pub given_len : (count : ℕ) → strip_len (given_items count) ≡ count
given_len zero = refl
given_len (suc n) = omega arith

-- a change of each sample
pub fit_change : (m : ℕ) (change : Change) (from to : ℕ) (xs : List Item) → ItemsFit m xs
    → ItemsFit m (with_change change from to xs)
fit_change m change from to xs f =
    let a = part_items 0 from xs in
    let p = part_items from (to - from) xs in
    ItemsFit-append m (a ++ map (item_change change) p) (rest_items to xs)
    (ItemsFit-append m a (map (item_change change) p) (ItemsFit-part m 0 from xs f)
    (ItemsFit_change m change p (ItemsFit-part m from (to - from) xs f)))
    (ItemsFit-part m to (strip_len xs) xs f)

from_piece_change : (old : List BlockRef) (count : ℕ) (change : Change) (p : Piece) → IsFrom old count p
    → IsFrom old count (piece_change change p)
from_piece_change old count Silence p f = tt
from_piece_change old count (Gain gain) (Old b from to) f = f
from_piece_change old count (Gain gain) (Scaled b from to g) f = f
from_piece_change old count (Gain gain) (Zero len) f = f
from_piece_change old count (Gain gain) (Given from to) f = f

from_changed : (old : List BlockRef) (count : ℕ) (change : Change) (xs : List Item) → ItemsFrom old count xs
    → ItemsFrom old count (map (item_change change) xs)
from_changed old count change [] f = tt
from_changed old count change (Gap n ∷ xs) f = (tt, from_changed old count change xs f.1)
from_changed old count change (Sound p ∷ xs) f =
    (from_piece_change old count change p f.0, from_changed old count change xs f.1)

pub from_change : (old : List BlockRef) (count : ℕ) (change : Change) (from to : ℕ) (xs : List Item) → AreItems xs
    → ItemsFrom old count xs → ItemsFrom old count (with_change change from to xs)
from_change old count change from to xs v f =
    let a = part_items 0 from xs in
    let p = part_items from (to - from) xs in
    ItemsFrom-append old count (a ++ map (item_change change) p) (rest_items to xs)
    (ItemsFrom-append old count a (map (item_change change) p) (ItemsFrom-part old count 0 from xs v f)
    (from_changed old count change p (ItemsFrom-part old count from (to - from) xs v f)))
    (ItemsFrom-part old count to (strip_len xs) xs v f)
