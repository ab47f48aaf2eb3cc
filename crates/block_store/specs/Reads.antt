-- What the reads of a block give, and what they find wrong.
use Rattle.std.specs.Prelude.{◌≡◌, ◌<◌, ◌≤◌, ◌⊎◌, ℕ, zero, suc, ◌+◌, ◌*◌, ◌-◌, min, map, List, length, Contains, Option}
use Rattle.std.specs.Prelude.{Some, None, Result, MatchResult}
use Rattle.std.specs.List.{range_with_len}
use Rattle.sample_block.specs.{declared.levels.TheConstants.LONG_FRAME, Spelling.header_fields, Spelling.size_of}
use Rattle.sample_block.specs.{Faults.difference, Faults.frame_in, declared.damage.Damaged.Damaged}
use Rattle.disk_model.specs.Disk.{Files, bytes_of}
use Rattle.pcm_base.specs.{declared.block.BlockRef.BlockRef, Causes.Rose}
use Rattle.peak_summary.specs.{declared.stretch.Summary.Summary, Peaks.frame_count}
use Rattle.block_store.specs.declared.frames.Level.TheVariants.{Short, Long}
use Rattle.block_store.specs.{declared.fault.BlockFault.BlockFault, declared.frames.Level.Level}
use Rattle.block_store.specs.declared.fault.BlockFault.TheVariants as fault

-- the count of failed reads rises where the disk failed, and stays elsewhere
abbrev pub CountedBy : BlockFault → ℕ → ℕ → Type 0
CountedBy fault.DiskFault old new = Rose old new × (old ≤ new)
CountedBy (fault.Damaged file found) old new = new ≡ old

abbrev pub Counted : {T : Type 0} → Result T BlockFault → ℕ → ℕ → Type 0
Counted result old new = MatchResult result (λ _. new ≡ old) (λ why. CountedBy why old new)

-- The file of a block of this many samples ends before this place: the fault has its size, at 0.
abbrev pub EndsBefore : (len end : ℕ) → List ℕ → Damaged → Type 0
EndsBefore len end bytes found =
    (found ≡ record { at = 0; want = size_of len; have = length bytes }) × (length bytes < end)

-- the same as an answer
abbrev pub IsEarly : (id len end : ℕ) → List ℕ → BlockFault → Type 0
IsEarly id len end bytes fault.DiskFault = Unit {0}
IsEarly id len end bytes (fault.Damaged file found) = (file ≡ id) × EndsBefore len end bytes found

-- the file begins with the header of this block
abbrev pub HasHeader : (id len : ℕ) → List ℕ → Type 0
HasHeader id len bytes = (16 ≤ length bytes) × (difference bytes 0 (header_fields id len) ≡ None)

-- the block whose header was compared last, if there was one, has it there still
abbrev pub IsCompared : Files → Option BlockRef → Type 0
IsCompared files None = Unit {0}
IsCompared files (Some b) = HasHeader b.id b.len (bytes_of (files b.id))

-- the header is there and another block's: the fault has its first field that differs
abbrev pub HasOtherHeader : (id len : ℕ) → List ℕ → Damaged → Type 0
HasOtherHeader id len bytes found = (16 ≤ length bytes) × (difference bytes 0 (header_fields id len) ≡ Some found)

-- A read of bytes before this place was refused: the header is another block's, or else the file ends before the place.
abbrev pub IsReadFault : (id len end : ℕ) → List ℕ → BlockFault → Type 0
IsReadFault id len end bytes fault.DiskFault = Unit {0}
IsReadFault id len end bytes (fault.Damaged file found) =
    (file ≡ id) × (HasOtherHeader id len bytes found
    ⊎ (EndsBefore len end bytes found × (16 ≤ length bytes → difference bytes 0 (header_fields id len) ≡ None)))

-- the same of a read of any bytes of the file
abbrev pub IsFault : (id len : ℕ) → List ℕ → BlockFault → Type 0
IsFault id len bytes why = IsReadFault id len (size_of len) bytes why

-- the file of one of these blocks is not as it has to be
abbrev pub IsFaultIn : Files → List BlockRef → BlockFault → Type 0
IsFaultIn files bs why = (b : BlockRef) × Contains bs b × IsFault b.id b.len (bytes_of (files b.id)) why

-- where a read of n items ends that end at this place; of none it is the header's end
abbrev pub end_of : (n place : ℕ) → ℕ
end_of zero place = 16
end_of (suc n) place = place

-- how many samples a frame of this level has, but for the last
abbrev pub frame_len : Level → ℕ
frame_len Short = 256
frame_len Long = LONG_FRAME

-- how many samples frame i has, of a block of this many
abbrev pub frame_samples : Level → ℕ → ℕ → ℕ
frame_samples level len i = min (frame_len level) (len - frame_len level * i)

-- where the frames of this level begin, in a file of this many samples
abbrev pub level_place : Level → ℕ → ℕ
level_place Short len = 16 + 2 * len
level_place Long len = 16 + 2 * len + 12 * frame_count 256 len

-- frame i of this level, as it stands in a file of this many samples
abbrev pub stored_frame : List ℕ → Level → ℕ → ℕ → Summary
stored_frame bytes level len i = frame_in bytes (level_place level len + 12 * i) (frame_samples level len i)

-- n of them, from a number on
abbrev pub stored_frames : List ℕ → Level → ℕ → ℕ → ℕ → List Summary
stored_frames bytes level len from n = map (stored_frame bytes level len) (range_with_len from n)
