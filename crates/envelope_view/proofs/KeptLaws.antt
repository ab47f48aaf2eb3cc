-- Pages that are there: of the same entries, of fewer cells, and of what is left after some.
use Rattle.envelope_view.proofs.Common.{◌≡◌, ℕ, ◌+◌, ◌-◌, ◌*◌, ◌/◌, ◌≤◌, ◌<◌, List, [], ◌∷◌, min, inl, inr, refl, subst}
use Rattle.envelope_view.proofs.Common.{sym, arith, cases_lt, BlockRef, Level, frame_len, Short, Long, Entries}
use Rattle.envelope_view.proofs.Common.{HasFrames, HasSamples, SameCache, same_none, Item, item_len, part_of_item}
use Rattle.envelope_view.proofs.Common.{Stretch, Block, stretch_item, stretch_len, HasItems, HasPart}
use Rattle.pcm_base.specs.{declared.piece.Piece.TheVariants.Old}
use Rattle.pcm_base.specs.declared.piece.Piece.TheVariants.{Scaled, Zero, Given}
use Rattle.block_cache.specs.{Entries.HasKey, Pages.frame_key, Pages.sample_key}
use Rattle.block_cache.proofs.{ListLaws.keys_same}
use Rattle.clip_track.specs.{Items.items_after}
use Rattle.clip_track.specs.declared.items.Item.TheVariants.{Gap, Sound}
use Rattle.clip_track.proofs.{RestItems.after_past, RestItems.after_within}
use Rattle.envelope_view.specs.Kept.{HasItem, HasPages}

pages_on : (a b : Entries) (x : BlockRef) (i : ℕ) → SameCache a b → HasPages a x i → HasPages b x i
pages_on a b x i same has = record {
  samples = (keys_same a.samples b.samples same.samples (sample_key x (i / 4096))).1 has.samples;
  frames = λ l. (keys_same a.frames b.frames same.frames (frame_key l x (i / frame_len l / 256))).1 (has.frames l);
}

pub part_on : (a b : Entries) (x : BlockRef) (from to at end : ℕ) → SameCache a b → from ≤ at → end ≤ to
    → HasPart a x from to → HasPart b x at end
part_on a b x from to at end same low high has = λ i after before.
    pages_on a b x i same (has i (omega (arith, low, after)) (omega (arith, high, before)))

pub part_in : (a : Entries) (x : BlockRef) (from to at end : ℕ) → from ≤ at → end ≤ to → HasPart a x from to
    → HasPart a x at end
part_in a x from to at end low high has = part_on a a x from to at end (same_none a) low high has

-- samples and frames of a part
pub part_samples : (a : Entries) (x : BlockRef) (from to at n : ℕ) → from ≤ at → at + n ≤ to
    → HasPart a x from to → HasSamples a x at n
part_samples a x from to at n low high has = λ i after before.
    (has i (omega (arith, low, after)) (omega (arith, high, before))).samples

pub part_frames : (a : Entries) (l : Level) (x : BlockRef) (from to first n : ℕ) → from ≤ frame_len l * first
    → frame_len l * (first + n) < to + frame_len l → HasPart a x from to → HasFrames a l x first n
part_frames a Short x from to first n low high has = λ i after before.
    let own : 256 * i / 256 ≡ i = omega arith in
    subst (λ (k : ℕ). HasKey a.frames (frame_key Short x (k / 256))) own
    ((has (256 * i) (omega (arith, low, after)) (omega (arith, high, before))).frames Short)
part_frames a Long x from to first n low high has = λ i after before.
    let own : 65536 * i / 65536 ≡ i = omega arith in
    subst (λ (k : ℕ). HasKey a.frames (frame_key Long x (k / 256))) own
    ((has (65536 * i) (omega (arith, low, after)) (omega (arith, high, before))).frames Long)

pub frames_on : (a b : Entries) (l : Level) (x : BlockRef) (first n : ℕ) → SameCache a b → HasFrames a l x first n
    → HasFrames b l x first n
frames_on a b l x first n same has = λ i after before.
    (keys_same a.frames b.frames same.frames (frame_key l x (i / 256))).1 (has i after before)

-- items, of the same entries and fewer cells
item_on : (a b : Entries) (from to at end : ℕ) (x : Item) → SameCache a b → from ≤ at → end ≤ to → HasItem a from to x
    → HasItem b at end x
item_on a b from to at end (Gap n) same low high has = tt
item_on a b from to at end (Sound (Old x s e)) same low high has =
    part_on a b x _ _ _ _ same (omega (arith, low)) (omega (arith, high)) has
item_on a b from to at end (Sound (Scaled x s e gain)) same low high has =
    part_on a b x _ _ _ _ same (omega (arith, low)) (omega (arith, high)) has
item_on a b from to at end (Sound (Zero n)) same low high has = tt
item_on a b from to at end (Sound (Given s e)) same low high has = tt

pub items_on : (a b : Entries) (from to at end : ℕ) (xs : List Item) → SameCache a b → from ≤ at → end ≤ to
    → HasItems a from to xs → HasItems b at end xs
items_on a b from to at end [] same low high has = tt
items_on a b from to at end (x ∷ xs) same low high has = (
  item_on a b from to at end x same low high has.0,
  items_on a b (from - item_len x) (to - item_len x) (at - item_len x) (end - item_len x) xs same (omega (arith, low))
      (omega (arith, high)) has.1,
)

-- an item of which some cells are passed
item_passed : (a : Entries) (skip to : ℕ) (x : Item) → skip ≤ item_len x → HasItem a skip (skip + to) x
    → HasItem a 0 to (part_of_item skip (item_len x - skip) x)
item_passed a skip to (Gap n) within has = tt
item_passed a skip to (Sound (Old x s e)) within has = λ i low high.
    has i (omega (arith, low)) (omega (arith, within, low, high))
item_passed a skip to (Sound (Scaled x s e gain)) within has = λ i low high.
    has i (omega (arith, low)) (omega (arith, within, low, high))
item_passed a skip to (Sound (Zero n)) within has = tt
item_passed a skip to (Sound (Given s e)) within has = tt

-- how many cells are left of it
len_passed : (skip n : ℕ) (x : Item) → item_len (part_of_item skip n x) ≡ n
len_passed skip n (Gap k) = omega arith
len_passed skip n (Sound (Old x s e)) = omega arith
len_passed skip n (Sound (Scaled x s e gain)) = omega arith
len_passed skip n (Sound (Zero k)) = omega arith
len_passed skip n (Sound (Given s e)) = omega arith

pub items_passed : (a : Entries) (skip to : ℕ) (x y : Item) (xs : List Item) → skip ≤ item_len x
    → y ≡ part_of_item skip (item_len x - skip) x → HasItems a skip (skip + to) (x ∷ xs) → HasItems a 0 to (y ∷ xs)
items_passed a skip to x y xs within is has =
    let left = len_passed skip (item_len x - skip) x in
    subst (λ (z : Item). HasItems a 0 to (z ∷ xs)) (sym is) (
      item_passed a skip to x within has.0,
      items_on a a _ _ _ _ xs (same_none a) (omega (arith, within)) (omega (arith, within, left)) has.1,
    )

-- what is left of a strip from a place on
pub items_left : (a : Entries) (from to : ℕ) (xs : List Item) → from ≤ to → HasItems a from to xs
    → HasItems a 0 (to - from) (items_after from xs)
items_left a from to [] rising has = tt
items_left a from to (x ∷ xs) rising has = elim (cases_lt from (item_len x)) [
  | inl lt ↦
      subst (HasItems a 0 (to - from)) (sym (after_within from x xs lt))
      (items_passed a from (to - from) x _ xs (omega (arith, lt)) refl
      (items_on a a from to from (from + (to - from)) (x ∷ xs) (same_none a) (omega arith) (omega (arith, rising)) has))
  | inr le ↦
      subst (HasItems a 0 (to - from)) (sym (after_past from x xs le))
      (items_on a a 0 (to - item_len x - (from - item_len x)) 0 (to - from) _ (same_none a) (omega arith)
      (omega (arith, le, rising)) (items_left a (from - item_len x) (to - item_len x) xs (omega (arith, rising)) has.1))
]

-- the next stretch is entered where all of one is passed
pub entered_pages : (a : Entries) (n : ℕ) (s t : Stretch) (old new : List Item) → stretch_len s ≤ 0
    → old ≡ stretch_item t ∷ new → HasItems a 0 n (stretch_item s ∷ old) → HasItems a 0 n (stretch_item t ∷ new)
entered_pages a n s t old new none is has = subst (HasItems a 0 n) is
    (items_on a a (0 - stretch_len s) (n - stretch_len s) 0 n old (same_none a) (omega arith) (omega (arith, none))
    has.1)

-- some cells of a stretch are read, out of those that are seen, and passed
pub stretch_pages : (a b : Entries) (left size reach : ℕ) (s u : Stretch) (rest : List Item) → SameCache a b
    → size ≤ left → s ≡ u → HasItems a 0 (left + reach) (stretch_item u ∷ rest)
    → HasItem b 0 (size + reach) (stretch_item s)
stretch_pages a b left size reach s u rest same within is has =
    item_on a b 0 (left + reach) 0 (size + reach) (stretch_item s) same (omega arith) (omega (arith, within))
    (subst (λ (x : Stretch). HasItems a 0 (left + reach) (stretch_item x ∷ rest)) (sym is) has).0

pub rest_pages : (a : Entries) (left size n : ℕ) (s t u : Stretch) (rest : List Item) → size ≤ left
    → size ≤ stretch_len s → s ≡ u → stretch_item t ≡ part_of_item size (stretch_len s - size) (stretch_item s)
    → HasItems a 0 (left + n) (stretch_item u ∷ rest) → HasItems a 0 (left - size + n) (stretch_item t ∷ rest)
rest_pages a left size n s t u rest within part is item has =
    items_passed a size (left - size + n) (stretch_item s) (stretch_item t) rest part item
    (items_on a a 0 (left + n) size (size + (left - size + n)) (stretch_item s ∷ rest) (same_none a) (omega arith)
    (omega (arith, within)) (subst (λ (x : Stretch). HasItems a 0 (left + n) (stretch_item x ∷ rest)) (sym is) has))

-- those of a stretch of a block
pub block_pages : (a : Entries) (s : Stretch) (b : BlockRef) (from to count reach : ℕ) → s ≡ Block b from
    → to ≡ from + count → HasItem a 0 (count + reach) (stretch_item s) → HasPart a b from (min b.len (to + reach))
block_pages a s b from to count reach is ends has =
    part_in a b (from + 0) (min b.len (from + (count + reach))) from (min b.len (to + reach)) (omega arith)
    (omega (arith, ends)) (subst (λ (x : Stretch). HasItem a 0 (count + reach) (stretch_item x)) is has)

-- fewer cells of what is seen
pub column_pages : (a b : Entries) (m n : ℕ) (xs : List Item) → SameCache a b → n ≤ m → HasItems a 0 m xs
    → HasItems b 0 n xs
column_pages a b m n xs same few has = items_on a b 0 m 0 n xs same (omega arith) few has
