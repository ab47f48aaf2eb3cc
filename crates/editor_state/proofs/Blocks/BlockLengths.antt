-- The blocks of sound tracks are no longer than the block size.
use Rattle.editor_state.proofs.Common.{ℕ, ◌≤◌, List, [], ◌∷◌, AllByRecursion, BlockRef, Clip, layout_blocks, Track}
use Rattle.editor_state.proofs.Common.{point_blocks, AllValidTracks, all_append, rules}
use Rattle.pcm_base.specs.{Blocks.AllFull, Blocks.IsHalfFull, Blocks.block_lens}
use Rattle.clip_track.specs.{Clips.AllHalfFull}

full_short : (m : ℕ) (bs : List BlockRef) → AllFull m (block_lens bs) → AllByRecursion (λ (b : BlockRef). b.len ≤ m) bs
full_short m [] full = tt
full_short m (b ∷ bs) full = (full.0.1, full_short m bs full.1)

clip_short : (m : ℕ) (bs : List BlockRef) → IsHalfFull m (block_lens bs)
    → AllByRecursion (λ (b : BlockRef). b.len ≤ m) bs
clip_short m [] half = tt
clip_short m (b ∷ []) half = (half.1, tt)
clip_short m (b ∷ c ∷ bs) half = full_short m (b ∷ c ∷ bs) half

layout_short : (m : ℕ) (cs : List Clip) → AllHalfFull m cs
    → AllByRecursion (λ (b : BlockRef). b.len ≤ m) (layout_blocks cs)
layout_short m [] half = tt
layout_short m (c ∷ cs) half = search (rules, all_append, clip_short, layout_short m cs half.1)

pub tracks_short : (m next track : ℕ) (ts : List Track) → AllValidTracks m next track ts
    → AllByRecursion (λ (b : BlockRef). b.len ≤ m) (point_blocks ts)
tracks_short m next track [] s = tt
tracks_short m next track (t ∷ ts) s = search (rules, all_append, layout_short, tracks_short m next track ts s.1)
