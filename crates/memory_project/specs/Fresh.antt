-- A fresh project on a disk in memory.
use Rattle.std.specs.Prelude.{◌≡◌, ℕ, ◌-◌, ◌≤◌, ◌<◌, IsTrue, IsSome, None}
use Rattle.pcm_base.specs.{declared.limits.TheConstants.COUNTER_LIMIT, Studio.fresh}
use Rattle.disk_model.specs.{Room.Room, declared.store.Store.Ghosts}
use Rattle.project_journal.specs.{Gate.EachNow, Header.IsFormat, Header.form_3}
use Rattle.record_body.specs.Saved.{Keeps, Opened}
use Rattle.editor_state.specs.{Core.Core, Studios.IsHeld, Studios.IsStudio, Studios.studio_of}
use Rattle.editor_recovery.specs.{Creating.new_opened, Honest.IsHonest}
use Rattle.memory_project.specs.declared.fresh.FreshProject.{FreshProject}
use Rattle.memory_project.specs.Memory.{HasAsked, HasRoom, no_room}
use Rattle.project_journal.specs.Journal as journal

-- A project that can be made: in its bounds, on a disk with room for it.
pub record CanBeMade (p : FreshProject) : Type 0 where
  pub format : IsFormat p.rate p.block_size p.depth
  pub files_least : 1 ≤ p.files
  pub files_most : p.files < COUNTER_LIMIT
  pub bytes_least : 82 ≤ p.bytes
  pub bytes_most : p.bytes < COUNTER_LIMIT
  pub calls_least : 10 ≤ p.calls
  pub calls_most : p.calls < COUNTER_LIMIT

-- what opening a disk with it finds
abbrev pub found_of : FreshProject → Opened
found_of p = new_opened p.rate p.block_size p.depth

-- the room of its disk
abbrev pub room_of_project : FreshProject → Room
room_of_project p = record { files = p.files; bytes = p.bytes; calls = p.calls }

-- what it takes to make it, where this many calls were served
abbrev pub made_room : ℕ → Room
made_room calls = record { files = 1; bytes = 82; calls = calls }

-- and the room that it leaves
abbrev pub left_behind : ℕ → FreshProject → Room
left_behind calls p = record { files = p.files - 1; bytes = p.bytes - 82; calls = p.calls - calls }

-- A disk without files, with this room.
pub record IsEmpty {D : Type 0} (disk : Ghosts D) (p : FreshProject) (store : D) : Type 0 where
  pub tells : IsTrue (disk.tells store)
  pub honest : IsHonest disk store
  pub none : (file : ℕ) → disk.reads store file ≡ None
  pub room : HasRoom disk store (room_of_project p)
  pub asked_none : HasAsked disk store no_room

-- The disk has its journal, and keeps it, and so does each image; no file is there but the journal.
pub record IsMade {D : Type 0} (disk : Ghosts D) (p : FreshProject) (store : D) : Type 0 where
  pub tells : IsTrue (disk.tells store)
  pub honest : IsHonest disk store
  pub there : journal.HasLog (form_3 0) (journal.fresh p.rate p.block_size p.depth) (disk.reads store)
  pub keeps : Keeps (disk.reads store) (found_of p)
  pub each : EachNow disk store (λ c. Keeps c (found_of p))
  pub only : (file : ℕ) → IsSome (disk.reads store file) → file ≡ 0
  pub room : HasRoom disk store (left_behind 8 p)
  pub asked_few : HasAsked disk store (made_room 8)

-- The studio of it, opened: that of the model's fresh project, on a disk of which no call has failed.
pub record IsFresh {D : Type 0} (disk : Ghosts D) (p : FreshProject) (start : Core D) : Type 0 where
  pub studio : IsStudio disk start
  pub held : IsHeld disk start
  pub honest : IsHonest disk start.store
  pub is : studio_of disk start ≡ fresh p.rate p.block_size p.depth
  pub room : HasRoom disk start.store (left_behind 10 p)
  pub asked_few : HasAsked disk start.store (made_room 10)
