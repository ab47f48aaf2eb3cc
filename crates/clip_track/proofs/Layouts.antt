-- Lemmas on clips.
use Rattle.clip_track.proofs.Common.{◌≡◌, ℕ, zero, suc, ◌+◌, ◌-◌, ◌<◌, ◌≤◌, List, [], ◌∷◌, ◌++◌, length, get_or, map}
use Rattle.clip_track.proofs.Common.{replicate, refl, sym, ap, ap₂, ◌∙◌, arith, map-append, append-nil, sub-zero}
use Rattle.clip_track.proofs.Common.{AllFull, IsHalfFull, NoneEmpty, block_lens, blocks_len, BlockRef, Sources, Clip}
use Rattle.clip_track.proofs.Common.{strip_len, strip_cells, AreItems, gap_items, ItemsFit, clip_end, end_of}
use Rattle.clip_track.proofs.Common.{layout_cells, AreClips, sound_items, items_from, AllHalfFull}
use Rattle.pcm_base.specs.Blocks.{block_samples}
use Rattle.pcm_base.specs.{Pieces.stretch}
use Rattle.clip_track.specs.{Clips.cells_from}
use Rattle.clip_track.proofs.Strips.{strip_len-append, strip_cells-append, AreItems-append, ItemsFit-append}
use Rattle.clip_track.proofs.Strips.{length-strip_cells}
use Rattle.pcm_base.specs.declared.sound.Cell.TheVariants as cell

pub strip_len-gap : (n : ℕ) → strip_len (gap_items n) ≡ n
strip_len-gap zero = refl
strip_len-gap (suc n) = omega arith

pub strip_cells-gap : (src : Sources) (n : ℕ) → strip_cells src (gap_items n) ≡ replicate n cell.Gap
strip_cells-gap src zero = refl
strip_cells-gap src (suc n) = append-nil (replicate (suc n) cell.Gap)

pub AreItems-gap : (n : ℕ) → AreItems (gap_items n)
AreItems-gap zero = tt
AreItems-gap (suc n) = (omega arith, tt)

pub strip_len-sound : (bs : List BlockRef) → strip_len (sound_items bs) ≡ blocks_len bs
strip_len-sound [] = refl
strip_len-sound (b ∷ bs) = ap₂ ◌+◌ (sub-zero b.len) (strip_len-sound bs)

pub strip_cells-sound : (src : Sources) (bs : List BlockRef)
    → strip_cells src (sound_items bs) ≡ map cell.Sample (block_samples src bs)
strip_cells-sound src [] = refl
strip_cells-sound src (b ∷ bs) =
    ap₂ (λ n cs. map cell.Sample (stretch (src.block b.id) 0 n) ++ cs) (sub-zero b.len) (strip_cells-sound src bs)
    ∙ sym (map-append cell.Sample (stretch (src.block b.id) 0 b.len) (block_samples src bs))

pub AreItems-sound : (bs : List BlockRef) → NoneEmpty bs → AreItems (sound_items bs)
AreItems-sound [] h = tt
AreItems-sound (b ∷ bs) h = ((omega (arith, h.0), (omega arith, omega arith, h.0)), AreItems-sound bs h.1)

-- clips that begin later end later
pub ends_later : (at from : ℕ) (cs : List Clip) → at ≤ from → AreClips from cs → at ≤ end_of at cs
ends_later at from [] h a = omega arith
ends_later at from (c ∷ cs) h a = omega (arith, ends_later (clip_end c) (clip_end c + 1) cs (omega arith) a.3)

pub strip_len-items : (at from : ℕ) (cs : List Clip) → at ≤ from → AreClips from cs
    → at + strip_len (items_from at cs) ≡ end_of at cs
strip_len-items at from [] h a = omega arith
strip_len-items at from (c ∷ cs) h a = omega (
  arith,
  strip_len-append (gap_items (c.start - at) ++ sound_items c.blocks) (items_from (clip_end c) cs),
  strip_len-append (gap_items (c.start - at)) (sound_items c.blocks),
  strip_len-gap (c.start - at),
  strip_len-sound c.blocks,
  a.0,
  strip_len-items (clip_end c) (clip_end c + 1) cs (omega arith) a.3,
)

pub strip_cells-items : (src : Sources) (at : ℕ) (cs : List Clip)
    → strip_cells src (items_from at cs) ≡ cells_from src at cs
strip_cells-items src at [] = refl
strip_cells-items src at (c ∷ cs) =
    strip_cells-append src (gap_items (c.start - at) ++ sound_items c.blocks) (items_from (clip_end c) cs)
    ∙ ap₂ ◌++◌
    (strip_cells-append src (gap_items (c.start - at)) (sound_items c.blocks)
    ∙ ap₂ ◌++◌ (strip_cells-gap src (c.start - at)) (strip_cells-sound src c.blocks))
    (strip_cells-items src (clip_end c) cs)

pub AreItems-items : (at from : ℕ) (cs : List Clip) → AreClips from cs → AreItems (items_from at cs)
AreItems-items at from [] a = tt
AreItems-items at from (c ∷ cs) a =
    AreItems-append _ _ (AreItems-append _ _ (AreItems-gap (c.start - at)) (AreItems-sound c.blocks a.2))
    (AreItems-items (clip_end c) (clip_end c + 1) cs a.3)

-- a layout's length
pub length-layout : (src : Sources) (cs : List Clip) → AreClips 0 cs → length (layout_cells src cs) ≡ end_of 0 cs
length-layout src cs a =
    sym (ap length (strip_cells-items src 0 cs)) ∙ length-strip_cells src (items_from 0 cs)
    ∙ omega (arith, strip_len-items 0 0 cs (omega arith) a)

pub AreClips-earlier : (at from : ℕ) (cs : List Clip) → at ≤ from → AreClips from cs → AreClips at cs
AreClips-earlier at from [] h a = tt
AreClips-earlier at from (c ∷ cs) h a = (omega (arith, a.0), a.1, a.2, a.3)

-- the clip at a place, and those after
pub AreClips-next : (at : ℕ) (c : Clip) (cs : List Clip) → AreClips at (c ∷ cs) → AreClips (clip_end c) cs
AreClips-next at c cs a = AreClips-earlier (clip_end c) (clip_end c + 1) cs (omega arith) a.3

pub end_within : (at : ℕ) (c : Clip) (cs : List Clip) → AreClips at (c ∷ cs) → clip_end c ≤ end_of at (c ∷ cs)
end_within at c cs a = ends_later (clip_end c) (clip_end c + 1) cs (omega arith) a.3

pub end_of_last : (at : ℕ) (cs : List Clip) (d : Clip) → 0 < length cs
    → clip_end (get_or cs (length cs - 1) d) ≡ end_of at cs
end_of_last at [] d h = absurd (omega arith)
end_of_last at (c ∷ []) d h = refl
end_of_last at (c ∷ b ∷ cs) d h =
    let e : suc (suc (length cs)) - 1 ≡ suc (suc (length cs) - 1) = omega arith in
    ap (λ n. clip_end (get_or (c ∷ b ∷ cs) n d)) e ∙ end_of_last (clip_end c) (b ∷ cs) d (omega arith)

pub ItemsFit-gap : (m n : ℕ) → ItemsFit m (gap_items n)
ItemsFit-gap m zero = tt
ItemsFit-gap m (suc n) = (tt, tt)

fits_full : (m : ℕ) (bs : List BlockRef) → AllFull m (block_lens bs) → ItemsFit m (sound_items bs)
fits_full m [] h = tt
fits_full m (b ∷ bs) h = (h.0.1, fits_full m bs h.1)

fits_half : (m : ℕ) (bs : List BlockRef) → IsHalfFull m (block_lens bs) → ItemsFit m (sound_items bs)
fits_half m [] h = tt
fits_half m (b ∷ []) h = (h.1, tt)
fits_half m (b ∷ c ∷ bs) h = fits_full m (b ∷ c ∷ bs) h

pub ItemsFit-items : (m at : ℕ) (cs : List Clip) → AllHalfFull m cs → ItemsFit m (items_from at cs)
ItemsFit-items m at [] h = tt
ItemsFit-items m at (c ∷ cs) h =
    ItemsFit-append m (gap_items (c.start - at) ++ sound_items c.blocks) (items_from (clip_end c) cs)
    (ItemsFit-append m (gap_items (c.start - at)) (sound_items c.blocks) (ItemsFit-gap m (c.start - at))
    (fits_half m c.blocks h.0))
    (ItemsFit-items m (clip_end c) cs h.1)
