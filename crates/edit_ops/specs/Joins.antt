-- Clips that are added to others, where those that touch become one.
use Rattle.std.specs.Prelude.{◌≡◌, ℕ, ◌+◌, ◌-◌, ◌≤◌, List, [], ◌∷◌, ◌++◌, length, if◌then◌else◌, ◌==◌}
use Rattle.pcm_base.specs.{declared.block.BlockRef.BlockRef, declared.limits.TheConstants.MAX_CELLS}
use Rattle.pcm_base.specs.Blocks.{IsHalfFull, NoneEmpty, block_lens, blocks_len}
use Rattle.block_sequence.specs.Rows.{from_to}
use Rattle.clip_track.specs.{declared.clips.Clip.Clip, Clips.AllHalfFull, Clips.clip_end}
use Rattle.edit_ops.specs.{declared.joins.Joining.Joining, declared.joins.Part.Part}

-- blocks from a place on as a clip, where there are any
abbrev pub clip_of : ℕ → List BlockRef → List Clip
clip_of start [] = []
clip_of start (b ∷ bs) = record { start = start; blocks = b ∷ bs } ∷ []

-- a clip with others after it: those that touch are one, and one without blocks is none
abbrev pub joined_clips : Clip → List Clip → List Clip
joined_clips c [] = clip_of c.start c.blocks
joined_clips c (d ∷ ds) =
    if clip_end c == d.start then joined_clips (record { start = c.start; blocks = c.blocks ++ d.blocks }) ds
    else clip_of c.start c.blocks ++ joined_clips d ds

-- clips that are moved from one place to another
abbrev pub moved : ℕ → ℕ → List Clip → List Clip
moved from to [] = []
moved from to (c ∷ cs) = record { start = c.start - from + to; blocks = c.blocks } ∷ moved from to cs

-- the blocks of a part
abbrev pub part_blocks : Part → List BlockRef
part_blocks p = from_to p.from p.to p.blocks.now

-- the part as a clip
abbrev pub part_clip : Part → Clip
part_clip p = record { start = p.start; blocks = part_blocks p }

-- blocks at a place of a track, half full at block size m
pub record IsPart (m : ℕ) (p : Part) : Type 0 where
  pub rising : p.from ≤ p.to
  pub within : p.to ≤ length p.blocks.now
  pub size : p.size ≡ blocks_len (part_blocks p)
  pub few : p.start + p.size ≤ MAX_CELLS
  pub none_empty : NoneEmpty (part_blocks p)
  pub half_full : IsHalfFull m (block_lens (part_blocks p))

-- what holds while clips are added, at block size m
pub record IsJoining (m : ℕ) (j : Joining) : Type 0 where
  pub end : j.end ≡ j.start + blocks_len j.blocks
  pub few : j.end ≤ MAX_CELLS
  pub none_empty : NoneEmpty j.blocks
  pub half_full : IsHalfFull m (block_lens j.blocks)
  pub clips : AllHalfFull m j.clips.items

-- the clips that there are once some more are added
abbrev pub finished : Joining → List Clip → List Clip
finished j ds = j.clips.items ++ joined_clips (record { start = j.start; blocks = j.blocks }) ds

-- some clips are added
pub record Adds (m : ℕ) (j : Joining) (ds : List Clip) (n : Joining) : Type 0 where
  pub joining : IsJoining m n
  pub clips : (es : List Clip) → finished n es ≡ finished j (ds ++ es)
