-- A disk with room for what is asked of it.
use Rattle.std.specs.Prelude.{◌≡◌, ℕ, ◌+◌, ◌≤◌, ◌<◌, Some}
use Rattle.pcm_base.specs.declared.limits.TheConstants.{COUNTER_LIMIT}
use Rattle.disk_model.specs.{Frames.asked, Room.IsWithin, Room.Room, declared.store.Store.Ghosts}

-- so much more fits
pub record Fits (now more room : ℕ) : Type 0 where
  pub within : now + more ≤ room
  pub small : now + more < COUNTER_LIMIT

-- No call of the disk has failed, and it has room for so much more.
pub record HasRoom {D : Type 0} (disk : Ghosts D) (store : D) (more : Room) : Type 0 where
  pub room : Room
  pub is : disk.room store ≡ Some room
  pub files : Fits (disk.absent_writes store) more.files room.files
  pub bytes : Fits (disk.asked_bytes store) more.bytes room.bytes
  pub calls : Fits (disk.change_calls store) more.calls room.calls
  pub reads : disk.read_fault_count store ≡ 0
  pub changes : disk.change_fault_count store ≡ 0

-- nothing more
abbrev pub no_room : Room
no_room = record { files = 0; bytes = 0; calls = 0 }

-- no more than this was asked of the disk in all
abbrev pub HasAsked : {D : Type 0} → Ghosts D → D → Room → Type 0
HasAsked disk store most = IsWithin (asked disk store) most
