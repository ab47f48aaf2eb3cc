-- The blocks of plans: which a layout names, and which pieces are read.
use Rattle.editor_blocks.proofs.Common.{⊎_elim, sym, subst, ℕ, ◌+◌, List, [], ◌∷◌, Contains, AllByRecursion, Old}
use Rattle.editor_blocks.proofs.Common.{Scaled, Zero, Given, BlockRef, Piece, AllFrom, layout_blocks, NewBlock, AreNew}
use Rattle.editor_blocks.proofs.Common.{AllNewFrom, AreOldOrNew, IsGiven, contained, all_left, all_right, rules}
use Rattle.pcm_base.specs.{Pieces.AllValid}
use Rattle.sample_block.specs.Sources.{AllNamed, IsNamed}
use Rattle.clip_track.specs.{declared.clips.Clip.Clip}
use Rattle.block_writer.specs.Reading.{AllReadable}
use Rattle.record_body.specs.Valid.{AllGiven, AllClipsGiven}
use Rattle.record_body.proofs.SavedBounds.{all_append}
use Rattle.editor_state.specs.{Edits.AreAmong, Made.PiecesReadable}
use Rattle.editor_blocks.proofs.StudioBlocks.{refs}

-- ---- their ids

given_ids : (next : ℕ) (bs : List BlockRef) → AllGiven next bs → AllByRecursion (λ (b : BlockRef). IsGiven next b.id) bs
given_ids next [] h = tt
given_ids next (b ∷ bs) h = ((h.0, h.1), given_ids next bs h.2)

ids_given : (next : ℕ) (bs : List BlockRef) → AllByRecursion (λ (b : BlockRef). IsGiven next b.id) bs → AllGiven next bs
ids_given next [] h = tt
ids_given next (b ∷ bs) h = (h.0.0, h.0.1, ids_given next bs h.1)

pub clips_ids : (next : ℕ) (cs : List Clip) → AllClipsGiven next cs
    → AllByRecursion (λ (b : BlockRef). IsGiven next b.id) (layout_blocks cs)
clips_ids next [] h = tt
clips_ids next (c ∷ cs) h = search (rules, all_append, given_ids, clips_ids next cs h.1)

pub ids_clips : (next : ℕ) (cs : List Clip) → AllByRecursion (λ (b : BlockRef). IsGiven next b.id) (layout_blocks cs)
    → AllClipsGiven next cs
ids_clips next [] h = tt
ids_clips next (c ∷ cs) h =
    let P : BlockRef → Type 0 = λ b. IsGiven next b.id in (
      ids_given next c.blocks (all_left P c.blocks (layout_blocks cs) h),
      ids_clips next cs (all_right P c.blocks (layout_blocks cs) h),
    )

-- ---- old blocks and new ones

pub old_or_new : (P : BlockRef → Type 0) (old bs : List BlockRef) (ns : List NewBlock) → AreOldOrNew old bs ns
    → AllByRecursion P old → AllByRecursion P (refs ns) → AllByRecursion P bs
old_or_new P old [] [] h a b = tt
old_or_new P old [] (n ∷ ns) h a b = absurd h
old_or_new P old (x ∷ xs) [] h a b = (contained P old x a h.0, old_or_new P old xs [] h.1 a b)
old_or_new P old (x ∷ xs) (n ∷ ns) h a b = ⊎_elim
    (λ was. (contained P old x a was.0, old_or_new P old xs (n ∷ ns) was.1 a b))
    (λ new. (subst P (sym new.0) b.0, old_or_new P old xs ns new.1 a b.1))
    h

-- pieces of some blocks are pieces of more
from_more : (xs ys : List BlockRef) (n : ℕ) (ps : List Piece) → AreAmong ys xs → AllFrom xs n ps → AllFrom ys n ps
from_more xs ys n [] all h = tt
from_more xs ys n (Old b lo hi ∷ ps) all h = (contained (Contains ys) xs b all h.0, from_more xs ys n ps all h.1)
from_more xs ys n (Scaled b lo hi gain ∷ ps) all h =
    (contained (Contains ys) xs b all h.0, from_more xs ys n ps all h.1)
from_more xs ys n (Zero len ∷ ps) all h = (tt, from_more xs ys n ps all h.1)
from_more xs ys n (Given lo hi ∷ ps) all h = (h.0, from_more xs ys n ps all h.1)

pub new_from_more : (xs ys : List BlockRef) (n : ℕ) (bs : List NewBlock) → AreAmong ys xs → AllNewFrom xs n bs
    → AllNewFrom ys n bs
new_from_more xs ys n [] all h = tt
new_from_more xs ys n (b ∷ bs) all h = (from_more xs ys n b.pieces all h.0, new_from_more xs ys n bs all h.1)

-- they can be read
readable : (xs : List BlockRef) (n : ℕ) (ps : List Piece) → AllNamed xs → AllFrom xs n ps → AllValid ps
    → AllReadable n ps
readable xs n [] all h valid = tt
readable xs n (Old b lo hi ∷ ps) all h valid =
    ((contained IsNamed xs b all h.0, valid.0.0, valid.0.1), readable xs n ps all h.1 valid.1)
readable xs n (Scaled b lo hi gain ∷ ps) all h valid =
    ((contained IsNamed xs b all h.0, valid.0.0, valid.0.1), readable xs n ps all h.1 valid.1)
readable xs n (Zero len ∷ ps) all h valid = (tt, readable xs n ps all h.1 valid.1)
readable xs n (Given lo hi ∷ ps) all h valid = ((valid.0, h.0), readable xs n ps all h.1 valid.1)

pub all_readable : (m next n : ℕ) (xs : List BlockRef) (bs : List NewBlock) → AllNamed xs → AllNewFrom xs n bs
    → AreNew m next bs → PiecesReadable n bs
all_readable m next n xs [] all h fresh = tt
all_readable m next n xs (b ∷ bs) all h fresh =
    (readable xs n b.pieces all h.0 fresh.4, all_readable m (next + 1) n xs bs all h.1 fresh.5)
