-- Clips that are laid out, before the new blocks have ids.
use Rattle.std.specs.Prelude.{ℕ, ◌+◌, ◌-◌, ◌≤◌, ◌<◌, List, [], ◌∷◌, ◌++◌, length, map, replicate}
use Rattle.pcm_base.specs.{declared.block.BlockRef.BlockRef, declared.sound.Cell.Cell, Blocks.IsHalfFull}
use Rattle.pcm_base.specs.{Pieces.Sources}
use Rattle.block_sequence.specs.Laid.{parts, sizes, all_laid_samples, AllMade}
use Rattle.block_sequence.specs.{declared.types.Laid.Laid, declared.types.Laid.TheVariants.Keep}
use Rattle.block_sequence.specs.{declared.types.Laid.TheVariants.Make, Fuse.added, Fuse.made_count, Origins.AllLaidFrom}
use Rattle.clip_track.specs.declared.clips.Clip.{Clip}
use Rattle.edit_ops.specs.{declared.types.LaidClip.LaidClip, declared.types.NewBlock.NewBlock}
use Rattle.pcm_base.specs.declared.sound.Cell.TheVariants as cell

-- the blocks that are laid out, the new ones by the ids that they get
abbrev pub named : ℕ → List Laid → List BlockRef
named next [] = []
named next (Keep b ∷ ls) = b ∷ named next ls
named next (Make ps len ∷ ls) = record { id = next; len = len } ∷ named (next + 1) ls

abbrev pub new_blocks : ℕ → List Laid → List NewBlock
new_blocks next [] = []
new_blocks next (Keep b ∷ ls) = new_blocks next ls
new_blocks next (Make ps len ∷ ls) = record { id = next; len = len; pieces = ps } ∷ new_blocks (next + 1) ls

abbrev pub next_after : ℕ → List Laid → ℕ
next_after next [] = next
next_after next (Keep b ∷ ls) = next_after next ls
next_after next (Make ps len ∷ ls) = next_after (next + 1) ls

abbrev pub laid_len : LaidClip → ℕ
laid_len c = added (sizes c.laid.items)

abbrev pub laid_end : ℕ → List LaidClip → ℕ
laid_end at [] = at
laid_end at (c ∷ cs) = laid_end (c.start + laid_len c) cs

-- where the next clip may begin
abbrev pub laid_next : ℕ → List LaidClip → ℕ
laid_next from [] = from
laid_next from (c ∷ cs) = laid_next (c.start + laid_len c + 1) cs

abbrev pub laid_cells : Sources → ℕ → List LaidClip → List Cell
laid_cells src at [] = []
laid_cells src at (c ∷ cs) = replicate (c.start - at) cell.Gap ++ map cell.Sample (all_laid_samples src c.laid.items)
    ++ laid_cells src (c.start + laid_len c) cs

abbrev pub AreLaidClips : ℕ → ℕ → List LaidClip → Type 0
AreLaidClips m from [] = Unit {0}
AreLaidClips m from (c ∷ cs) = (from ≤ c.start) × (0 < laid_len c) × AllMade m c.laid.items
    × IsHalfFull m (sizes c.laid.items) × AreLaidClips m (c.start + laid_len c + 1) cs

-- what is laid out comes from these blocks, and this many samples that the command brings
abbrev pub ClipsFrom : List BlockRef → ℕ → List LaidClip → Type 0
ClipsFrom old count [] = Unit {0}
ClipsFrom old count (c ∷ cs) = AllLaidFrom old count c.laid.items × ClipsFrom old count cs

-- with ids
abbrev pub named_clips : ℕ → List LaidClip → List Clip
named_clips next [] = []
named_clips next (c ∷ cs) =
    record { start = c.start; blocks = named next c.laid.items } ∷ named_clips (next_after next c.laid.items) cs

abbrev pub clips_new_blocks : ℕ → List LaidClip → List NewBlock
clips_new_blocks next [] = []
clips_new_blocks next (c ∷ cs) = new_blocks next c.laid.items ++ clips_new_blocks (next_after next c.laid.items) cs

abbrev pub clips_next : ℕ → List LaidClip → ℕ
clips_next next [] = next
clips_next next (c ∷ cs) = clips_next (next_after next c.laid.items) cs

-- how many blocks there are
abbrev pub count_laid : List LaidClip → ℕ
count_laid [] = 0
count_laid (c ∷ cs) = length c.laid.items + count_laid cs

-- how many new blocks there are
abbrev pub made_clips : List LaidClip → ℕ
made_clips [] = 0
made_clips (c ∷ cs) = made_count (parts c.laid.items) + made_clips cs
