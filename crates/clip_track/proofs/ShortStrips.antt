-- No piece of a part is longer than a block.
use Rattle.clip_track.proofs.Common.{ℕ, zero, suc, ◌+◌, ◌-◌, ◌≤◌, inl, inr, min, List, [], ◌∷◌, ◌++◌, arith, cases_lt}
use Rattle.clip_track.proofs.Common.{sub-zero, BlockRef, AllFull, IsHalfFull, block_lens, piece_len-part, Item, Gap}
use Rattle.clip_track.proofs.Common.{Sound, Clip, item_len, part_of_item, part_items, gap_items, clip_end, AllHalfFull}
use Rattle.clip_track.proofs.Common.{sound_items, items_from, ItemShort, ItemsShort}
use Rattle.clip_track.proofs.Strips.{part_none, part_past, part_within}

-- no piece is longer than a block
pub ItemsShort-append : (m : ℕ) (xs ys : List Item) → ItemsShort m xs → ItemsShort m ys → ItemsShort m (xs ++ ys)
ItemsShort-append m [] ys a b = b
ItemsShort-append m (x ∷ xs) ys a b = (a.0, ItemsShort-append m xs ys a.1 b)

pub short_part : (m skip n : ℕ) (x : Item) → skip + n ≤ item_len x → ItemShort m x → ItemShort m (part_of_item skip n x)
short_part m skip n (Gap k) h a = tt
short_part m skip n (Sound p) h a = omega (arith, piece_len-part skip n p)

pub ItemsShort-part : (m skip left : ℕ) (xs : List Item) → ItemsShort m xs → ItemsShort m (part_items skip left xs)
ItemsShort-part m skip zero xs v = rw (part_none skip xs) tt
ItemsShort-part m skip (suc left) [] v = tt
ItemsShort-part m skip (suc left) (x ∷ xs) v = elim (cases_lt skip (item_len x)) [
  | inl a ↦ rw (part_within skip (suc left) x xs (omega arith) a) (
    short_part m skip (min (suc left) (item_len x - skip)) x (omega arith) v.0,
    ItemsShort-part m 0 (suc left - min (suc left) (item_len x - skip)) xs v.1,
  )
  | inr a ↦ rw (part_past skip (suc left) x xs (omega arith) a)
      (ItemsShort-part m (skip - item_len x) (suc left) xs v.1)
]

pub short_gap : (m n : ℕ) → ItemsShort m (gap_items n)
short_gap m zero = tt
short_gap m (suc n) = (tt, tt)

short_full : (m : ℕ) (bs : List BlockRef) → AllFull m (block_lens bs) → ItemsShort m (sound_items bs)
short_full m [] h = tt
short_full m (b ∷ bs) h = (omega (arith, sub-zero b.len, h.0.1), short_full m bs h.1)

short_half : (m : ℕ) (bs : List BlockRef) → IsHalfFull m (block_lens bs) → ItemsShort m (sound_items bs)
short_half m [] h = tt
short_half m (b ∷ []) h = (omega (arith, sub-zero b.len, h.1), tt)
short_half m (b ∷ c ∷ bs) h = short_full m (b ∷ c ∷ bs) h

pub short_layout : (m at : ℕ) (cs : List Clip) → AllHalfFull m cs → ItemsShort m (items_from at cs)
short_layout m at [] h = tt
short_layout m at (c ∷ cs) h =
    ItemsShort-append m (gap_items (c.start - at) ++ sound_items c.blocks) (items_from (clip_end c) cs)
    (ItemsShort-append m (gap_items (c.start - at)) (sound_items c.blocks) (short_gap m (c.start - at))
    (short_half m c.blocks h.0))
    (short_layout m (clip_end c) cs h.1)
