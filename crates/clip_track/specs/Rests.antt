-- What is left of a layout from a place on.
use Rattle.std.specs.Prelude.{◌≡◌, ℕ, ◌≤◌, ◌<◌, List, [], ◌∷◌, ◌++◌, Option, MatchOption}
use Rattle.pcm_base.specs.{declared.limits.TheConstants.MAX_CELLS, declared.block.BlockRef.BlockRef}
use Rattle.pcm_base.specs.{declared.piece.Piece.TheVariants.Old, Blocks.NoneEmpty}
use Rattle.clip_track.specs.declared.items.Item.TheVariants.{Gap, Sound}
use Rattle.clip_track.specs.declared.rest.Stretch.TheVariants.{Gaps, Block}
use Rattle.clip_track.specs.Clips.{AreClips, end_of, items_from, sound_items}
use Rattle.clip_track.specs.{declared.items.Item.Item, declared.rest.Left.Left, declared.rest.Stretch.Stretch}
use Rattle.clip_track.specs.{Items.gap_items}
use Rattle.block_sequence.specs.Rows.{flat}

-- a stretch as an item of a strip
abbrev pub stretch_item : Stretch → Item
stretch_item (Gaps len) = Gap len
stretch_item (Block b from) = Sound (Old b from b.len)

-- the next stretch of some items, where there is one, and what is left after it
abbrev pub IsNext : List Item → Option Stretch → List Item → Type 0
IsNext old next new = MatchOption next ((old ≡ []) × (new ≡ [])) (λ s. old ≡ stretch_item s ∷ new)

-- blocks, of the first of which this many samples are passed
abbrev pub sound_from : ℕ → List BlockRef → List Item
sound_from passed [] = []
sound_from passed (b ∷ bs) = Sound (Old b passed b.len) ∷ sound_items bs

abbrev pub IsWithin : ℕ → List BlockRef → Type 0
IsWithin passed [] = Unit {0}
IsWithin passed (b ∷ bs) = passed < b.len

-- the blocks that are left of a clip: those of a row, and the rows after it
abbrev pub left_blocks : Left → List BlockRef
left_blocks l = l.blocks.now ++ flat l.rows.now

-- what is left: gaps, blocks of a clip, and the clips after it
abbrev pub left_items : Left → List Item
left_items l = (gap_items l.gaps ++ sound_from l.passed (left_blocks l)) ++ items_from l.end l.clips.now

pub record IsLeft (l : Left) : Type 0 where
  pub within : IsWithin l.passed (left_blocks l)
  pub some : NoneEmpty (left_blocks l)
  pub apart : AreClips l.end l.clips.now
  pub few : end_of l.end l.clips.now ≤ MAX_CELLS
