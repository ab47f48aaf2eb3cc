-- Layouts: clips apart from each other, and the cells that they mean.
use Rattle.std.specs.Prelude.{ℕ, ◌+◌, ◌-◌, ◌<◌, ◌≤◌, List, [], ◌∷◌, ◌++◌, map, replicate}
use Rattle.pcm_base.specs.Blocks.{IsHalfFull, NoneEmpty, block_lens, block_samples, blocks_len}
use Rattle.pcm_base.specs.{declared.limits.TheConstants.MAX_CELLS, declared.sound.Cell.Cell}
use Rattle.pcm_base.specs.{declared.block.BlockRef.BlockRef, Pieces.Sources, Pieces.whole}
use Rattle.clip_track.specs.{declared.items.Item.Item, declared.items.Item.TheVariants.Sound, declared.clips.Clip.Clip}
use Rattle.clip_track.specs.{Items.gap_items}
use Rattle.pcm_base.specs.declared.sound.Cell.TheVariants as cell

abbrev pub clip_end : Clip → ℕ
clip_end c = c.start + blocks_len c.blocks

-- where the last clip ends
abbrev pub end_of : ℕ → List Clip → ℕ
end_of at [] = at
end_of at (c ∷ cs) = end_of (clip_end c) cs

-- the cells from a place on, written out clip by clip
abbrev pub cells_from : Sources → ℕ → List Clip → List Cell
cells_from src at [] = []
cells_from src at (c ∷ cs) =
    replicate (c.start - at) cell.Gap ++ map cell.Sample (block_samples src c.blocks) ++ cells_from src (clip_end c) cs

-- what a layout means
abbrev pub layout_cells : Sources → List Clip → List Cell
layout_cells src cs = cells_from src 0 cs

-- the blocks of a layout, clip by clip
abbrev pub layout_blocks : List Clip → List BlockRef
layout_blocks [] = []
layout_blocks (c ∷ cs) = c.blocks ++ layout_blocks cs

-- clips of at least one sample that begin at a place or later, each at least one gap after the one before
abbrev pub AreClips : ℕ → List Clip → Type 0
AreClips from [] = Unit {0}
AreClips from (c ∷ cs) =
    (from ≤ c.start) × (0 < blocks_len c.blocks) × NoneEmpty c.blocks × AreClips (clip_end c + 1) cs

pub record IsLayout (cs : List Clip) : Type 0 where
  pub apart : AreClips 0 cs
  pub few : end_of 0 cs ≤ MAX_CELLS

-- each clip is one block of 1 to m samples, or blocks of m / 2 to m
abbrev pub AllHalfFull : ℕ → List Clip → Type 0
AllHalfFull m [] = Unit {0}
AllHalfFull m (c ∷ cs) = IsHalfFull m (block_lens c.blocks) × AllHalfFull m cs

abbrev pub sound_items : List BlockRef → List Item
sound_items bs = map (λ b. Sound (whole b)) bs

-- the strip of a layout, from a place on
abbrev pub items_from : ℕ → List Clip → List Item
items_from at [] = []
items_from at (c ∷ cs) = gap_items (c.start - at) ++ sound_items c.blocks ++ items_from (clip_end c) cs
