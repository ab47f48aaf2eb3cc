-- The strip that each edit lays out, made of the items of the track's strip.
use Rattle.std.specs.Prelude.{ℕ, zero, suc, ◌+◌, ◌-◌, ◌≤◌, min, false, List, [], ◌∷◌, ◌++◌, map}
use Rattle.pcm_base.specs.declared.block.BlockRef.{BlockRef}
use Rattle.pcm_base.specs.declared.piece.Piece.TheVariants.{Old, Scaled, Zero, Given}
use Rattle.pcm_base.specs.{declared.sound.Cell.Cell, Edits.deleted, Edits.split_deleted, Edits.kept_only}
use Rattle.block_sequence.specs.Origins.{IsFrom}
use Rattle.clip_track.specs.Items.{strip_len, part_items, gap_items, ItemsFit}
use Rattle.clip_track.specs.{declared.items.Item.Item, declared.items.Item.TheVariants.Gap}
use Rattle.clip_track.specs.{declared.items.Item.TheVariants.Sound, Rough.rough_items, Rough.ItemsShort}
use Rattle.edit_ops.specs.{declared.changing.Change.Change, Changes.item_change, declared.strips.Cutting.Cutting}
use Rattle.edit_ops.specs.declared.strips.Cutting.TheVariants.{Delete, SplitDelete, Trim}

-- all from a place on
abbrev pub rest_items : ℕ → List Item → List Item
rest_items at xs = part_items at (strip_len xs) xs

-- without a range
abbrev pub without : ℕ → ℕ → List Item → List Item
without from to xs = part_items 0 from xs ++ rest_items to xs

-- with gaps in the place of a range, as much of it as is there
abbrev pub with_gaps : ℕ → ℕ → List Item → List Item
with_gaps from to xs = part_items 0 from xs ++ gap_items (min (to - from) (strip_len xs - from)) ++ rest_items to xs

-- with gaps in the place of all but a range
abbrev pub only_part : ℕ → ℕ → List Item → List Item
only_part from to xs = gap_items from ++ part_items from (to - from) xs

-- what each way of cutting makes of a strip, and of its cells
abbrev pub cut_items : Cutting → ℕ → ℕ → List Item → List Item
cut_items Delete = without
cut_items SplitDelete = with_gaps
cut_items Trim = only_part

abbrev pub cut_cells : Cutting → ℕ → ℕ → List Cell → List Cell
cut_cells Delete = deleted
cut_cells SplitDelete = split_deleted
cut_cells Trim = kept_only

-- a trim's range is within the track
abbrev pub CutsWithin : Cutting → ℕ → ℕ → Type 0
CutsWithin Delete to len = Unit {0}
CutsWithin SplitDelete to len = Unit {0}
CutsWithin Trim to len = to ≤ len

-- with each sample of a range changed
abbrev pub with_change : Change → ℕ → ℕ → List Item → List Item
with_change change from to xs =
    part_items 0 from xs ++ map (item_change change) (part_items from (to - from) xs) ++ rest_items to xs

-- the front, continued by gaps up to a length
abbrev pub front_items : ℕ → List Item → List Item
front_items at xs = part_items 0 at xs ++ gap_items (at - strip_len xs)

-- with other items put in at a place
abbrev pub with_inserted : ℕ → List Item → List Item → List Item
with_inserted at ys xs = front_items at xs ++ ys ++ rest_items at xs

-- with other items in the place of as many cells
abbrev pub with_covered : ℕ → List Item → List Item → List Item
with_covered at ys xs = front_items at xs ++ ys ++ rest_items (at + strip_len ys) xs

-- all of the samples that the command brings
abbrev pub given_items : ℕ → List Item
given_items zero = []
given_items (suc n) = Sound (Given 0 (suc n)) ∷ []

-- a range, all of it: gaps where the track is shorter
abbrev pub range_items : ℕ → ℕ → List Item → List Item
range_items from to xs = part_items from (to - from) xs ++ gap_items (to - from - (strip_len xs - from))

-- parts of blocks alone
abbrev pub IsOld : Item → Type 0
IsOld (Gap n) = Unit {0}
IsOld (Sound (Old b from to)) = Unit {0}
IsOld (Sound (Scaled b from to gain)) = ⊥
IsOld (Sound (Zero len)) = ⊥
IsOld (Sound (Given from to)) = ⊥

abbrev pub AllOld : List Item → Type 0
AllOld [] = Unit {0}
AllOld (x ∷ xs) = IsOld x × AllOld xs

-- where items come from
abbrev pub IsItemFrom : List BlockRef → ℕ → Item → Type 0
IsItemFrom blocks count (Gap n) = Unit {0}
IsItemFrom blocks count (Sound p) = IsFrom blocks count p

abbrev pub ItemsFrom : List BlockRef → ℕ → List Item → Type 0
ItemsFrom blocks count [] = Unit {0}
ItemsFrom blocks count (x ∷ xs) = IsItemFrom blocks count x × ItemsFrom blocks count xs

-- what a clipboard holds at block size m: parts of blocks of at most m samples, of which at most two, the first and
-- the last, have to be laid out anew where the strip is put between others
pub record IsClip (m : ℕ) (xs : List Item) : Type 0 where
  pub old : AllOld xs
  pub fit : ItemsFit m xs
  pub short : ItemsShort m xs
  pub few_rough : rough_items m false false xs ≤ 2
