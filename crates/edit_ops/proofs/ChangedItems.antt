-- Items with each sample changed.
use Rattle.edit_ops.proofs.Common.{◌≡◌, ℕ, zero, suc, ◌+◌, ◌-◌, ◌<◌, ℤ, pos, List, [], ◌∷◌, ◌++◌, length, get_or, map}
use Rattle.edit_ops.proofs.Common.{replicate, refl, sym, ap, ap₂, ◌∙◌, arith, inl, inr, min, cases_lt, Old, Scaled}
use Rattle.edit_ops.proofs.Common.{Zero, Given, Sources, stretch, piece_len, Cell, Piece, BlockRef, Gap, Sound}
use Rattle.edit_ops.proofs.Common.{item_len, strip_len, strip_cells, IsItem, AreItems, ItemsFit, part_items}
use Rattle.edit_ops.proofs.Common.{part_of_item, gap_items, clip_end, sound_items, items_from, Item, Clip, part_none}
use Rattle.edit_ops.proofs.Common.{part_past, part_within, cell_change, piece_change, item_change, Change, Silence}
use Rattle.edit_ops.proofs.Common.{Gain, IsOld, AllOld}
use Rattle.std.proofs.{lemmas.List.map-append}
use Rattle.pcm_base.specs.Pieces.{samples_of, IsValid, Fits}
use Rattle.pcm_base.specs.{Arithmetic.scaled, Arithmetic.clamped, Edits.quieted, Edits.gained}
use Rattle.pcm_base.proofs.Pieces.{length-samples}
use Rattle.clip_track.specs.Items.{item_cells, ItemFits}
use Rattle.clip_track.proofs.Strips.{item_at}
use Rattle.pcm_base.specs.declared.sound.Cell.TheVariants as cell

silent_samples : (xs : List ℤ) → map cell.Sample (replicate (length xs) (pos 0)) ≡ map quieted (map cell.Sample xs)
silent_samples [] = refl
silent_samples (x ∷ xs) = ap (λ cs. cell.Sample (pos 0) ∷ cs) (silent_samples xs)

gained_samples : (gain : ℕ) (xs : List ℤ)
    → map cell.Sample (map (λ s. clamped (scaled gain s)) xs) ≡ map (gained gain) (map cell.Sample xs)
gained_samples gain [] = refl
gained_samples gain (x ∷ xs) = ap (λ cs. cell.Sample (clamped (scaled gain x)) ∷ cs) (gained_samples gain xs)

gaps_same : (f : Cell → Cell) (n : ℕ) → f cell.Gap ≡ cell.Gap → replicate n cell.Gap ≡ map f (replicate n cell.Gap)
gaps_same f zero e = refl
gaps_same f (suc n) e = ap₂ ◌∷◌ (sym e) (gaps_same f n e)

item_cells_change : (src : Sources) (change : Change) (x : Item) → IsOld x
    → item_cells src (item_change change x) ≡ map (cell_change change) (item_cells src x)
item_cells_change src Silence (Gap n) o = gaps_same quieted n refl
item_cells_change src (Gain gain) (Gap n) o = gaps_same (gained gain) n refl
item_cells_change src Silence (Sound (Old b from to)) o =
    ap (λ n. map cell.Sample (replicate n (pos 0))) (sym (length-samples src (Old b from to)))
    ∙ silent_samples (samples_of src (Old b from to))
item_cells_change src (Gain gain) (Sound (Old b from to)) o =
    gained_samples gain (stretch (src.block b.id) from (to - from))
item_cells_change src change (Sound (Scaled b from to gain)) o = absurd o
item_cells_change src change (Sound (Zero len)) o = absurd o
item_cells_change src change (Sound (Given from to)) o = absurd o

pub strip_cells_change : (src : Sources) (change : Change) (xs : List Item) → AllOld xs
    → strip_cells src (map (item_change change) xs) ≡ map (cell_change change) (strip_cells src xs)
strip_cells_change src change [] o = refl
strip_cells_change src change (x ∷ xs) o =
    ap₂ ◌++◌ (item_cells_change src change x o.0) (strip_cells_change src change xs o.1)
    ∙ sym (map-append (cell_change change) (item_cells src x) (strip_cells src xs))

pub piece_len_change : (change : Change) (p : Piece) → piece_len (piece_change change p) ≡ piece_len p
piece_len_change Silence p = refl
piece_len_change (Gain gain) (Old b from to) = refl
piece_len_change (Gain gain) (Scaled b from to g) = refl
piece_len_change (Gain gain) (Zero len) = refl
piece_len_change (Gain gain) (Given from to) = refl

item_len_change : (change : Change) (x : Item) → item_len (item_change change x) ≡ item_len x
item_len_change change (Gap n) = refl
item_len_change change (Sound p) = piece_len_change change p

pub strip_len_change : (change : Change) (xs : List Item) → strip_len (map (item_change change) xs) ≡ strip_len xs
strip_len_change change [] = refl
strip_len_change change (x ∷ xs) = ap₂ ◌+◌ (item_len_change change x) (strip_len_change change xs)

piece_valid_change : (change : Change) (p : Piece) → IsValid p → IsValid (piece_change change p)
piece_valid_change Silence p v = tt
piece_valid_change (Gain gain) (Old b from to) v = v
piece_valid_change (Gain gain) (Scaled b from to g) v = v
piece_valid_change (Gain gain) (Zero len) v = v
piece_valid_change (Gain gain) (Given from to) v = v

item_ok_change : (change : Change) (x : Item) → IsItem x → IsItem (item_change change x)
item_ok_change change (Gap n) v = v
item_ok_change change (Sound p) v = (omega (arith, piece_len_change change p, v.0), piece_valid_change change p v.1)

pub AreItems_change : (change : Change) (xs : List Item) → AreItems xs → AreItems (map (item_change change) xs)
AreItems_change change [] v = tt
AreItems_change change (x ∷ xs) v = (item_ok_change change x v.0, AreItems_change change xs v.1)

piece_fits_change : (m : ℕ) (change : Change) (p : Piece) → Fits m p → Fits m (piece_change change p)
piece_fits_change m Silence p v = tt
piece_fits_change m (Gain gain) (Old b from to) v = v
piece_fits_change m (Gain gain) (Scaled b from to g) v = v
piece_fits_change m (Gain gain) (Zero len) v = v
piece_fits_change m (Gain gain) (Given from to) v = v

item_fits_change : (m : ℕ) (change : Change) (x : Item) → ItemFits m x → ItemFits m (item_change change x)
item_fits_change m change (Gap n) v = v
item_fits_change m change (Sound p) v = piece_fits_change m change p v

pub ItemsFit_change : (m : ℕ) (change : Change) (xs : List Item) → ItemsFit m xs
    → ItemsFit m (map (item_change change) xs)
ItemsFit_change m change [] v = tt
ItemsFit_change m change (x ∷ xs) v = (item_fits_change m change x v.0, ItemsFit_change m change xs v.1)

-- a layout's strip, and each part of it, is of parts of blocks alone
pub AllOld-append : (xs ys : List Item) → AllOld xs → AllOld ys → AllOld (xs ++ ys)
AllOld-append [] ys a b = b
AllOld-append (x ∷ xs) ys a b = (a.0, AllOld-append xs ys a.1 b)

old_part : (skip n : ℕ) (x : Item) → IsOld x → IsOld (part_of_item skip n x)
old_part skip n (Gap k) o = tt
old_part skip n (Sound (Old b from to)) o = tt
old_part skip n (Sound (Scaled b from to gain)) o = absurd o
old_part skip n (Sound (Zero len)) o = absurd o
old_part skip n (Sound (Given from to)) o = absurd o

pub AllOld-part : (skip left : ℕ) (xs : List Item) → AllOld xs → AllOld (part_items skip left xs)
AllOld-part skip zero xs v = rw (part_none skip xs) tt
AllOld-part skip (suc left) [] v = tt
AllOld-part skip (suc left) (x ∷ xs) v = elim (cases_lt skip (item_len x)) [
  | inl a ↦ rw (part_within skip (suc left) x xs (omega arith) a) (
    old_part skip (min (suc left) (item_len x - skip)) x v.0,
    AllOld-part 0 (suc left - min (suc left) (item_len x - skip)) xs v.1,
  )
  | inr a ↦ rw (part_past skip (suc left) x xs (omega arith) a) (AllOld-part (skip - item_len x) (suc left) xs v.1)
]

pub old_gap : (n : ℕ) → AllOld (gap_items n)
old_gap zero = tt
old_gap (suc n) = (tt, tt)

old_sound : (bs : List BlockRef) → AllOld (sound_items bs)
old_sound [] = tt
old_sound (b ∷ bs) = (tt, old_sound bs)

pub AllOld-items : (at : ℕ) (cs : List Clip) → AllOld (items_from at cs)
AllOld-items at [] = tt
AllOld-items at (c ∷ cs) =
    AllOld-append (gap_items (c.start - at) ++ sound_items c.blocks) (items_from (clip_end c) cs)
    (AllOld-append (gap_items (c.start - at)) (sound_items c.blocks) (old_gap (c.start - at)) (old_sound c.blocks))
    (AllOld-items (clip_end c) cs)

pub item_ok_at : (xs : List Item) (i : ℕ) (d : Item) → i < length xs → AreItems xs → IsItem (get_or xs i d)
item_ok_at xs i d h v = item_at xs i d h v
