-- Tracks of a point that are heard, in memory.
use Rattle.std.specs.Prelude.{◌≡◌, ◌+◌, ℕ, List, [], ◌∷◌, if◌then◌else◌, Result, Ok, Err, false}
use Rattle.pcm_base.specs.{declared.refusal.Refusal.Refusal, declared.sound.Side.Side}
use Rattle.block_store.specs.{declared.fault.BlockFault.BlockFault, Reasons.reason_of}
use Rattle.project_state.specs.declared.track.Track.{Track}
use Rattle.block_cache.specs.Caches.{Entries}
use Rattle.cell_reader.specs.Kept.{HasSeen}
use Rattle.mix_reader.specs.declared.loads.LoadFault.{LoadFault}
use Rattle.mix_reader.specs.declared.loads.LoadFault.TheVariants.{Block, NoMemory}
use Rattle.pcm_base.specs.declared.refusal.Refusal.TheVariants as refusal
use Rattle.block_store.specs.declared.fault.BlockFault.TheVariants as block

-- how many are heard, their gains and their sides
abbrev pub heard_count : List Track → ℕ
heard_count [] = 0
heard_count (t ∷ ts) = (if t.mute then 0 else 1) + heard_count ts

abbrev pub heard_gains : List Track → List ℕ
heard_gains [] = []
heard_gains (t ∷ ts) = if t.mute then heard_gains ts else t.gain ∷ heard_gains ts

abbrev pub heard_sides : List Track → List Side
heard_sides [] = []
heard_sides (t ∷ ts) = if t.mute then heard_sides ts else t.side ∷ heard_sides ts

-- the cache has all pages that these tracks want from one place to another, but for muted ones
abbrev pub HasHeard : Entries → (from to : ℕ) → List Track → Type 0
HasHeard c from to [] = Unit {0}
HasHeard c from to (t ∷ ts) = (t.mute ≡ false → HasSeen c from to t.layout) × HasHeard c from to ts

-- ---- why tracks are not loaded

-- what the disk had to say: nothing is asked of it where there is no memory
abbrev pub disk_part : {T : Type 0} → Result T LoadFault → Result (Unit {0}) BlockFault
disk_part (Ok x) = Ok tt
disk_part (Err (Block why)) = Err why
disk_part (Err NoMemory) = Ok tt

-- no file is at fault
abbrev pub IsNoDamage : LoadFault → Type 0
IsNoDamage (Block why) = why ≡ block.DiskFault
IsNoDamage NoMemory = Unit {0}

-- the reason of a line
abbrev pub refusal_of : LoadFault → Refusal
refusal_of (Block why) = reason_of why
refusal_of NoMemory = refusal.NoMemory
