-- When each answer of a creation comes.
use Rattle.std.specs.Prelude.{ℕ, [], Result, Ok, Err}
use Rattle.pcm_base.specs.History.{history_of_one}
use Rattle.disk_model.specs.{Disk.Files, Frames.Kept, declared.store.Store.Ghosts}
use Rattle.record_body.specs.Saved.{Opened}
use Rattle.editor_recovery.specs.{declared.fault.OpenFault.OpenFault, Files.IsFirstForeign, Files.NoForeign}
use Rattle.editor_recovery.specs.{Standing.HasNone, Standing.HasSome}
use Rattle.editor_recovery.specs.declared.fault.OpenFault.TheVariants as fault

-- a project without commits, whose one point has no tracks
abbrev pub new_opened : ℕ → ℕ → ℕ → Opened
new_opened rate block_size depth = record {
  rate = rate;
  block_size = block_size;
  history = history_of_one [] 0 depth;
  next_track = 1;
  commit = 0;
}

abbrev pub HasNoForeign : {T : Type 0} → Files → Result T OpenFault → Type 0
HasNoForeign files (Ok _) = NoForeign files
HasNoForeign files (Err (fault.Foreign file)) = IsFirstForeign files file
HasNoForeign files (Err fault.DiskFault) = Unit {0}
HasNoForeign files (Err fault.NoMemory) = Unit {0}
HasNoForeign files (Err _) = ⊥

-- First whether a project is there, then a foreign file.
abbrev pub Creates : {T : Type 0} → Files → Result T OpenFault → Type 0
Creates files (Ok _) = HasNone files × NoForeign files
Creates files (Err fault.Exists) = HasSome files
Creates files (Err (fault.Foreign file)) = HasNone files × IsFirstForeign files file
Creates files (Err fault.DiskFault) = Unit {0}
Creates files (Err fault.NoMemory) = Unit {0}
Creates files (Err _) = ⊥

-- what refuses a creation, whatever the store tells
abbrev pub IsCreateRefusal : OpenFault → Type 0
IsCreateRefusal fault.Exists = Unit {0}
IsCreateRefusal (fault.Foreign file) = Unit {0}
IsCreateRefusal fault.DiskFault = Unit {0}
IsCreateRefusal fault.NoMemory = Unit {0}
IsCreateRefusal _ = ⊥

-- a creation that is refused leaves the store as it was, but where the disk failed
abbrev pub LeavesRefused : {D T : Type 0} → Ghosts D → (old new : D) → Result T OpenFault → Type 0
LeavesRefused disk old new (Ok _) = Unit {0}
LeavesRefused disk old new (Err fault.DiskFault) = Unit {0}
LeavesRefused disk old new (Err _) = Kept disk old new
