-- What a store in memory is, as its callers see it, and what each call makes of it.
use Rattle.std.specs.Prelude.{◌≡◌, ◌⊎◌, ◌<◌, ◌+◌, ◌-◌, ◌^◌, min, ℕ, List, [], ◌∷◌, Option, None, Some, Contains, length}
use Rattle.disk_model.specs.Room.{Room, counted, raised, met}
use Rattle.memory_disk.specs.History.{Step, Wrote, Synced, Removed, reads_of}

-- the calls that changed the disk, the newest first, and the room: how many files may still be made, how many bytes
-- written, how many changing calls served
pub record Log : Type 0 where
  pub history : List Step
  pub files_left : ℕ
  pub bytes_left : ℕ
  pub calls_left : ℕ

-- how many calls there have been, the numbers of those that fail, the last that is served where the store stops, how
-- many failed, how many were to change the disk, how many bytes were to be written, and how many writes met an absent
-- file
pub record Tally : Type 0 where
  pub made : ℕ
  pub fails : List ℕ
  pub last : Option ℕ
  pub read_faults : ℕ
  pub change_faults : ℕ
  pub change_calls : ℕ
  pub asked_bytes : ℕ
  pub absent_writes : ℕ

pub record Ram : Type 0 where
  pub log : Log
  pub tally : Tally

-- the store has stopped before a call of this number
abbrev pub IsPast : Option ℕ → ℕ → Type 0
IsPast None n = ⊥
IsPast (Some last) n = last < n

-- a tally of no call
abbrev pub fresh_tally : List ℕ → Tally
fresh_tally fails = record {
  made = 0;
  fails = fails;
  last = None;
  read_faults = 0;
  change_faults = 0;
  change_calls = 0;
  asked_bytes = 0;
  absent_writes = 0;
}

-- the next call is listed, or comes after the stop
abbrev pub IsDue : Tally → Type 0
IsDue tally = Contains tally.fails (counted tally.made) ⊎ IsPast tally.last (counted tally.made)

-- after a call that reads, and after one that changes
abbrev pub with_read : Tally → Tally
with_read tally = record tally { made = counted tally.made }

abbrev pub with_change : Tally → Tally
with_change tally = record tally { made = counted tally.made; change_calls = raised tally.change_calls 1 }

-- what a write of this many bytes to a file asks, whose content or size is this
abbrev pub with_asked : {A : Type 0} → Tally → Option A → ℕ → Tally
with_asked tally there n =
    record tally { asked_bytes = raised tally.asked_bytes n; absent_writes = met there tally.absent_writes }

-- and with its fault
abbrev pub with_read_fault : Tally → Tally
with_read_fault tally = record tally { read_faults = counted tally.read_faults }

abbrev pub with_change_fault : Tally → Tally
with_change_fault tally = record tally { change_faults = counted tally.change_faults }

-- there is no room for a write of this many bytes to the file
abbrev pub IsFull : Log → ℕ → ℕ → Type 0
IsFull log file n =
    (log.calls_left ≡ 0) ⊎ (log.bytes_left < n) ⊎ ((log.files_left ≡ 0) × (reads_of log.history file ≡ None))

-- how many files may still be made after a write to this one
abbrev pub files_after : ℕ → Option (List ℕ) → ℕ
files_after left None = left - 1
files_after left (Some bytes) = left

-- after a write that is served, a sync and a removal
abbrev pub with_write : Log → ℕ → ℕ → List ℕ → Log
with_write log file at bytes = record {
  history = Wrote file at bytes ∷ log.history;
  files_left = files_after log.files_left (reads_of log.history file);
  bytes_left = log.bytes_left - length bytes;
  calls_left = log.calls_left - 1;
}

abbrev pub with_sync : Log → ℕ → Log
with_sync log file = record log { history = Synced file ∷ log.history; calls_left = log.calls_left - 1 }

abbrev pub with_removal : Log → ℕ → Log
with_removal log file = record log { history = Removed file ∷ log.history; calls_left = log.calls_left - 1 }

-- after a call that changes nothing on the disk
abbrev pub after_read : Ram → Ram
after_read ram = record ram { tally = with_read ram.tally }

abbrev pub after_failed_read : Ram → Ram
after_failed_read ram = record ram { tally = with_read_fault (with_read ram.tally) }

abbrev pub after_failed_change : Ram → Ram
after_failed_change ram = record ram { tally = with_change_fault (with_change ram.tally) }

-- a write counts besides what it asks
abbrev pub after_write : Ram → ℕ → ℕ → List ℕ → Ram
after_write ram file at bytes = record {
  log = with_write ram.log file at bytes;
  tally = with_asked (with_change ram.tally) (reads_of ram.log.history file) (length bytes);
}

abbrev pub after_failed_write : Ram → ℕ → ℕ → Ram
after_failed_write ram file n =
    record ram { tally = with_change_fault (with_asked (with_change ram.tally) (reads_of ram.log.history file) n) }

-- no room is promised where calls are listed that fail, or where it stops
abbrev pub room_if : List ℕ → Option ℕ → Room → Option Room
room_if [] None room = Some room
room_if [] (Some last) room = None
room_if (n ∷ ns) last room = None

-- what is left, and what was asked so far
abbrev pub room_of : Ram → Option Room
room_of ram = room_if ram.tally.fails ram.tally.last (record {
  files = min (ram.log.files_left + ram.tally.absent_writes) (2 ^ 64 - 1);
  bytes = min (ram.log.bytes_left + ram.tally.asked_bytes) (2 ^ 64 - 1);
  calls = min (ram.log.calls_left + ram.tally.change_calls) (2 ^ 64 - 1);
})
