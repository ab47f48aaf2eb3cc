-- What calls leave of a store, said of all the members of the store as one value.
use Rattle.std.specs.Prelude.{◌≡◌, ◌⊎◌, ◌+◌, ◌≤◌, IsTrue, IsSome}
use Rattle.disk_model.specs.Room.{Room, IsSpent, IsWithin, StaysRoom}
use Rattle.disk_model.specs.{Disk.Files, Disk.StaysStep, Disk.Follows, declared.store.Store.Ghosts}

-- what was asked of a store so far
abbrev pub asked : {D : Type 0} → Ghosts D → D → Room
asked disk store =
    record { files = disk.absent_writes store; bytes = disk.asked_bytes store; calls = disk.change_calls store }

-- Reads: nothing of the disk changes, and no changing call is counted. A disk with room has counted no failed read.
pub record Kept {D : Type 0} (disk : Ghosts D) (old new : D) : Type 0 where
  pub same_tells : disk.tells new ≡ disk.tells old
  pub same_reads : disk.reads new ≡ disk.reads old
  pub same_model : disk.keeps_model new ≡ disk.keeps_model old
  pub same_clock : disk.clock new ≡ disk.clock old
  pub same_images : Follows StaysStep (disk.clock old) (disk.clock new) (disk.may_leave old) (disk.may_leave new)
  pub same_faults : disk.change_fault_count new ≡ disk.change_fault_count old
  pub same_calls : disk.change_calls new ≡ disk.change_calls old
  pub same_bytes : disk.asked_bytes new ≡ disk.asked_bytes old
  pub same_absent : disk.absent_writes new ≡ disk.absent_writes old
  pub same_room : disk.room new ≡ disk.room old
  pub unfailing : IsSome (disk.room old) → disk.read_fault_count new ≡ disk.read_fault_count old

-- Calls of any kind, which do no more than this step to what is read and to what a stop may leave, and ask no more of
-- the disk than so much. A disk with room has counted a fault only where more was asked of it in all.
pub record Changed {D : Type 0} (disk : Ghosts D) (step : Files → Files → Type 0) (much : Room)
    (old new : D) : Type 0 where
  pub tells : disk.tells new ≡ disk.tells old
  pub model : disk.keeps_model new ≡ disk.keeps_model old
  pub reads : IsTrue (disk.tells old) → step (disk.reads old) (disk.reads new)
  pub images : Follows step (disk.clock old) (disk.clock new) (disk.may_leave old) (disk.may_leave new)
  pub later : IsWithin (asked disk old) (asked disk new)
  pub files : IsTrue (disk.tells old) → disk.absent_writes new ≤ disk.absent_writes old + much.files
  pub bytes : disk.asked_bytes new ≤ disk.asked_bytes old + much.bytes
  pub calls : disk.change_calls new ≤ disk.change_calls old + much.calls
  pub room : StaysRoom (disk.room old) (disk.room new)
  pub spent : (disk.change_fault_count new ≡ disk.change_fault_count old) ⊎ IsSpent (disk.room old) (asked disk new)
  pub unfailing : IsSome (disk.room old) → disk.read_fault_count new ≡ disk.read_fault_count old
