-- What the writer finds out of a track.
use Rattle.std.specs.Prelude.{◌≡◌, ℕ, zero, suc, ◌-◌, ◌≤◌, ◌<◌, ◌==◌, ◌&&◌, if◌then◌else◌, List, [], ◌∷◌, length, drop}
use Rattle.pcm_base.specs.declared.block.BlockRef.{BlockRef}
use Rattle.pcm_base.specs.declared.limits.TheConstants.{MAX_CELLS}
use Rattle.block_sequence.specs.Fronts.{common}
use Rattle.clip_track.specs.declared.clips.Clip.{Clip}
use Rattle.project_state.specs.declared.track.Track.{Track}
use Rattle.record_body.specs.declared.changes.Choice.{Choice}
use Rattle.record_body.specs.Changes.{Change, Same, Whole, Tail, last_blocks, same_blocks, same_but_last}
use Rattle.record_body.specs.declared.changes.Choice.TheVariants as choice

-- the first blocks are the same, as many as this number, as far as both lists have them
abbrev pub HasFront : ℕ → List BlockRef → List BlockRef → Type 0
HasFront zero xs ys = Unit {0}
HasFront (suc n) [] ys = Unit {0}
HasFront (suc n) (x ∷ xs) [] = Unit {0}
HasFront (suc n) (x ∷ xs) (y ∷ ys) = (x ≡ y) × HasFront n xs ys

-- a choice as a change to this track
abbrev pub change_by : Track → Choice → Change
change_by t choice.Same = Same
change_by t choice.Whole = Whole t
change_by t (choice.Tail gone kept) = Tail gone (drop kept (last_blocks t.layout))

-- the blocks that are kept are some of the last clip's
abbrev pub LiesIn : List Clip → Choice → Type 0
LiesIn cs choice.Same = Unit {0}
LiesIn cs choice.Whole = Unit {0}
LiesIn cs (choice.Tail gone kept) = (0 < length cs) × (kept ≤ length (last_blocks cs)) × (gone ≤ MAX_CELLS)

abbrev pub LiesWithin : Track → Choice → Type 0
LiesWithin t c = LiesIn t.layout c

-- by the blocks of the last clips, where all others are the same
abbrev pub last_choice : List BlockRef → List BlockRef → Choice
last_choice xs ys =
    if same_blocks xs ys then choice.Same else choice.Tail (length xs - common xs ys) (common xs ys)

-- by the clips
abbrev pub clips_choice : List Clip → List Clip → Choice
clips_choice xs ys =
    if same_but_last xs ys then last_choice (last_blocks xs) (last_blocks ys)
    else if (length xs == 0) && (length ys == 0) then choice.Same
    else choice.Whole
