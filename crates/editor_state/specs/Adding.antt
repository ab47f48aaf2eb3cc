-- What the parts of a commit do.
use Rattle.std.specs.Prelude.{◌≡◌, ◌⊎◌, ℕ, suc, ◌+◌, ◌≤◌, ◌<◌, IsTrue, Option, Some, None, List, Result, Ok, Err}
use Rattle.std.specs.Prelude.{MatchResult, OnOk}
use Rattle.pcm_base.specs.{Causes.Rose, Counters.no_room, Counters.record_test, Refusals.◌otherwise◌, Run.stop_of}
use Rattle.pcm_base.specs.{declared.limits.TheConstants.COUNTER_LIMIT, declared.limits.TheConstants.LONGEST_BODY}
use Rattle.pcm_base.specs.{Studio.fault_sum, declared.refusal.Refusal.Refusal}
use Rattle.disk_model.specs.{Disk.SameElsewhere, Frames.Changed, declared.store.Store.Ghosts}
use Rattle.project_journal.specs.Journal.{Log, IsAt, HasOneOf, rows_length, with_bodies}
use Rattle.project_journal.specs.{Gate.EachSince, Rooms.append_room, declared.fault.JournalFault.JournalFault}
use Rattle.editor_state.specs.{Bodies.Writing, Bodies.all_bytes, Bodies.whole_len, Core.Core, Core.form_at}
use Rattle.pcm_base.specs.declared.refusal.Refusal.TheVariants as refusal
use Rattle.project_journal.specs.declared.fault.JournalFault.TheVariants as journal

-- the first that refuses a commit that needs `tracks` track ids: that the studio is stopped, its own tests, or that a
-- counter has no room
abbrev pub Tested : {D : Type 0} → Core D → Option Refusal → ℕ → Result (Unit {0}) Refusal → Type 0
Tested s own tracks result = MatchResult result
    (λ _. (s.stopped ≡ None) × (own ≡ None) × (s.next_track + tracks ≤ COUNTER_LIMIT)
    × (s.commit_number < COUNTER_LIMIT))
    (λ why. (stop_of s.stopped) otherwise own otherwise (no_room s.next_track tracks)
    otherwise (no_room s.commit_number 1) ≡ Some why)

-- a refusal that is not for want of memory
abbrev pub IsNoWant : Refusal → Type 0
IsNoWant refusal.NoMemory = ⊥
IsNoWant why = Unit {0}

-- what refuses a record with a body of `len` bytes before the disk is asked
abbrev pub Exceeds : ℕ → ℕ → Refusal → Type 0
Exceeds end len (refusal.SpaceSpent have need) = (COUNTER_LIMIT < end + (6 + len)) × (have ≡ end) × (need ≡ 6 + len)
Exceeds end len (refusal.RecordLimit n) = (n ≡ len) × (LONGEST_BODY < len) × (end + (6 + len) ≤ COUNTER_LIMIT)
Exceeds end len why = ⊥

-- the same of one with a body of `len` bytes, which written out whole has `whole`
abbrev pub ExceedsBy : (end whole len : ℕ) → Refusal → Type 0
ExceedsBy end whole len why = Exceeds end whole why ⊎ Exceeds end len why

-- What refuses a record of `len` bytes, with this many new layouts, before the disk is asked: the journal has no places
-- for it, numbers of layouts are not left, or it is too long.
abbrev pub Outgrows : (end next layouts len : ℕ) → Refusal → Type 0
Outgrows end next layouts len why =
    ((no_room end (6 + len)) otherwise (no_room next layouts)) otherwise (record_test len) ≡ Some why

abbrev pub OutgrowsBy : (end next layouts whole len : ℕ) → Refusal → Type 0
OutgrowsBy end next layouts whole len why = Outgrows end next layouts whole why ⊎ Outgrows end next layouts len why

-- the first two of these tests
abbrev pub Undrawn : (end next layouts len : ℕ) → Refusal → Type 0
Undrawn end next layouts len why = (no_room end (6 + len)) otherwise (no_room next layouts) ≡ Some why

-- the studio that a failed change of its disk has stopped
abbrev pub stopped_by : {D : Type 0} → Ghosts D → Core D → D → Core D
stopped_by disk old store =
    record old {
      store = store;
      stopped = Some (fault_sum (disk.read_fault_count store) (disk.change_fault_count store));
    }

-- a change of the disk failed, and no read
pub record HasFailed {D : Type 0} (disk : Ghosts D) (old new : D) : Type 0 where
  pub rose : Rose (disk.change_fault_count old) (disk.change_fault_count new)
  pub later : disk.change_fault_count old ≤ disk.change_fault_count new

-- The fields after this many records were to be added, which have `len` bytes without the gate of the first and the length
-- of its body, and written out whole `whole`.
abbrev pub Fields : {D R : Type 0} → Ghosts D → Core D → (whole count len : ℕ) → Result R Refusal → Core D → Type 0
Fields disk old whole count len (Ok _) new =
    (new ≡ record old {
      store = new.store;
      journal_end = old.journal_end + 5 + len;
      commit_number = old.commit_number + count;
    })
    × (old.journal_end + (6 + len) ≤ COUNTER_LIMIT)
    × (disk.change_fault_count new.store ≡ disk.change_fault_count old.store) × (len ≤ LONGEST_BODY)
Fields disk old whole count len (Err (refusal.SpaceSpent have need)) new =
    (new ≡ old) × ExceedsBy old.journal_end whole len (refusal.SpaceSpent have need)
Fields disk old whole count len (Err refusal.NoMemory) new = new ≡ old
Fields disk old whole count len (Err (refusal.RecordLimit n)) new =
    (new ≡ old) × ExceedsBy old.journal_end whole len (refusal.RecordLimit n)
Fields disk old whole count len (Err refusal.DiskFault) new =
    (new ≡ stopped_by disk old new.store) × (old.journal_end + (6 + len) ≤ COUNTER_LIMIT)
    × HasFailed disk old.store new.store × (len ≤ LONGEST_BODY)
Fields disk old whole count len (Err why) new = ⊥

-- what the answer of an append of this many records makes of a studio that has its store already
abbrev pub Settles : {D : Type 0} → Ghosts D → Core D → ℕ → Result ℕ JournalFault → Result (Unit {0}) Refusal → Core D
    → Type 0
Settles disk old count (Ok next) result new =
    (result ≡ Ok (tt {0})) × (new ≡ record old { journal_end = next; commit_number = old.commit_number + count })
Settles disk old count (Err journal.DiskFault) result new = (result ≡ Err refusal.DiskFault)
    × (new ≡ stopped_by disk old old.store)
Settles disk old count (Err (journal.SpaceSpent have need)) result new = (result ≡ Err (refusal.SpaceSpent have need))
    × (new ≡ old)
Settles disk old count (Err fault) result new = (result ≡ Err refusal.NoMemory) × (new ≡ old)

-- records with these bodies, as this many commits, which written out whole have `whole` bytes, added to the journal, all
-- of them or none
pub record Adds {D R : Type 0} (disk : Ghosts D) (old : Core D) (bodies : List (List ℕ)) (count whole : ℕ)
    (result : Result R Refusal) (new : Core D) : Type 0 where
  pub fields : Fields disk old whole count (rows_length bodies) result new
  pub any_moment : (log : Log) → IsTrue (disk.tells old.store) → IsAt (form_at old) disk old.store old.journal_end log
      → EachSince disk old.store new.store (HasOneOf (form_at old) log (with_bodies log bodies))
  pub done : (log : Log) → IsTrue (disk.tells old.store) → IsAt (form_at old) disk old.store old.journal_end log
      → OnOk result (IsAt (form_at old) disk new.store new.journal_end (with_bodies log bodies))
  pub changed : Changed disk (SameElsewhere old.file) (append_room (disk.reads old.store old.file) (rows_length bodies))
      old.store new.store
  pub read_faults : disk.read_fault_count new.store ≡ disk.read_fault_count old.store

-- the same of what a commit writes
abbrev pub AddsBody : {D R : Type 0} → Ghosts D → Core D → Writing → Result R Refusal → Core D → Type 0
AddsBody disk old w result new = Adds disk old (all_bytes old w) (suc w.more) (whole_len old w) result new

-- the same of a commit with this many new layouts, whose numbers may not be left
abbrev pub AddsDrawn : {D R : Type 0} → Ghosts D → Core D → ℕ → Writing → Result R Refusal → Core D → Type 0
AddsDrawn {R = R} disk old layouts w (Ok q) new =
    (old.next_layout + layouts ≤ COUNTER_LIMIT) × AddsBody {R = R} disk old w (Ok q) new
AddsDrawn {R = R} disk old layouts w (Err why) new =
    ((old.next_layout + layouts ≤ COUNTER_LIMIT) × AddsBody {R = R} disk old w (Err why) new)
    ⊎ ((new ≡ old) × Undrawn old.journal_end old.next_layout layouts (whole_len old w) why)
