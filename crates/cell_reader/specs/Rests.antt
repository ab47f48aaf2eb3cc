-- What is left of a track from a place on.
use Rattle.std.specs.Prelude.{◌≡◌, ℕ, ◌+◌, ◌-◌, ◌≤◌, ◌<◌, ◌⊎◌, List, [], ◌∷◌, ◌++◌, length, map, replicate}
use Rattle.std.specs.Prelude.{slice_index_or, Contains}
use Rattle.pcm_base.specs.{declared.limits.TheConstants.MAX_CELLS, declared.block.BlockRef.BlockRef}
use Rattle.pcm_base.specs.{declared.sound.Cell.Cell, Pieces.Sources, Blocks.blocks_len, Blocks.block_samples}
use Rattle.clip_track.specs.declared.clips.Clip.{Clip}
use Rattle.clip_track.specs.Clips.{AreClips, end_of, cells_from, layout_cells, layout_blocks}
use Rattle.sample_block.specs.Sources.{AllNamed}
use Rattle.block_cache.specs.Caches.{Entries}
use Rattle.cell_reader.specs.{declared.rest.TrackRest.TrackRest, Kept.left_blocks, Kept.HasRest, Kept.HasSeen}
use Rattle.pcm_base.specs.declared.sound.Cell.TheVariants as cell

-- its cells, from its place on
abbrev pub rest_cells : Sources → TrackRest → List Cell
rest_cells src r = replicate (r.start - r.at) cell.Gap ++ map cell.Sample
    (block_samples src (left_blocks r)) ++ cells_from src r.end r.clips.now

-- the cell at a place of the track
abbrev pub rest_cell : Sources → TrackRest → ℕ → Cell
rest_cell src r i = slice_index_or (rest_cells src r) (i - r.at) cell.Gap

abbrev pub rest_blocks : TrackRest → List BlockRef
rest_blocks r = left_blocks r ++ layout_blocks r.clips.now

-- blocks that a disk may have, and clips after them, each at its place
pub record IsRest (r : TrackRest) : Type 0 where
  pub later : r.at ≤ r.start
  pub row : r.row_end ≡ r.start + blocks_len r.blocks.now
  pub whole : r.end ≡ r.start + blocks_len (left_blocks r)
  pub apart : AreClips r.end r.clips.now
  pub few : end_of r.end r.clips.now ≤ MAX_CELLS
  pub named : AllNamed (left_blocks r)
  pub clips_named : AllNamed (layout_blocks r.clips.now)

-- the first of some blocks ends after a place, where there is one
abbrev pub EndsBehind : ℕ → ℕ → List BlockRef → Type 0
EndsBehind from start [] = Unit {0}
EndsBehind from start (b ∷ bs) = from < start + b.len

-- no clip and no block that ends by a place stands in front any more
pub record IsPast (from : ℕ) (r : TrackRest) : Type 0 where
  pub clip : r.clips.now ≡ [] ⊎ (from < r.end)
  pub block : EndsBehind from r.start (left_blocks r)

-- the rest of a track, which has all of it from a place on
pub record IsRestOf (from : ℕ) (cs : List Clip) (r : TrackRest) : Type 0 where
  pub rest : IsRest r
  pub passed : r.at ≤ from
  pub same_end : end_of r.end r.clips.now ≡ end_of 0 cs
  pub cells : (src : Sources) (i : ℕ) → from ≤ i → rest_cell src r i ≡ slice_index_or (layout_cells src cs) i cell.Gap
  pub blocks : (b : BlockRef) → Contains (rest_blocks r) b → Contains (layout_blocks cs) b
  pub kept : (c : Entries) (at to : ℕ) → HasSeen c at to cs → HasRest c (record { from = at; to = to }) r

-- what is made of the cells at places of a track from one on, gaps past its end
abbrev pub AreSeen : {A : Type 0} → (Cell → A) → Sources → ℕ → List Clip → List A → Type 0
AreSeen made src from cs xs = (k : ℕ) → k < length xs
    → slice_index_or xs k (made cell.Gap) ≡ made (slice_index_or (layout_cells src cs) (from + k) cell.Gap)
