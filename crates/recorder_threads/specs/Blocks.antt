-- What ends a block, and a microphone as its reader sees it.
use Rattle.std.specs.{Prelude.◌≡◌, Prelude.ℕ, Prelude.◌<◌, Prelude.List, Prelude.Option, Io.KnownBytes.IsAtEnd}
use Rattle.pcm_base.specs.Causes.{Rose}
use Rattle.edit_ports.specs.Told.{Course, Faulted, Open, Over}
use Rattle.recorder_threads.specs.{declared.block.TheConstants.BLOCK_BYTES, declared.block.BlockEnd.BlockEnd}
use Rattle.edit_ports.specs.declared.source.Source as source
use Rattle.recorder_threads.specs.declared.block.BlockEnd.TheVariants as block

-- a microphone at one time
pub record MicState : Type 0 where
  -- the bytes that are left of it, where it tells them
  pub left : Option (List ℕ)
  -- how often it failed
  pub fault_count : ℕ

abbrev pub mic_state : {M : Type 0} → source.Ghosts M → M → MicState
mic_state mics m = record { left = mics.left m; fault_count = mics.fault_count m }

-- by its length, and by the microphone before the block and after it
abbrev pub IsEndOf : BlockEnd → ℕ → MicState → MicState → Type 0
IsEndOf block.Full len old new = (len ≡ BLOCK_BYTES) × (new.fault_count ≡ old.fault_count)
IsEndOf block.End len old new = (len < BLOCK_BYTES) × (new.fault_count ≡ old.fault_count) × IsAtEnd new.left
IsEndOf block.Fault len old new = (len < BLOCK_BYTES) × Rose old.fault_count new.fault_count

-- how its reads went
abbrev pub block_course : BlockEnd → Course
block_course block.Full = Open
block_course block.End = Over
block_course block.Fault = Faulted
