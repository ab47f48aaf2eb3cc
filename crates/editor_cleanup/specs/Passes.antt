-- The passes of a reclaim: files are removed, then each is synced, and then their blocks are forgotten.
use Rattle.std.specs.Prelude.{◌≡◌, ◌⊎◌, ℕ, ◌+◌, ◌*◌, ◌≤◌, Bool, IsTrue, Some, None, List, [], ◌∷◌, length, Contains}
use Rattle.std.specs.Prelude.{Result, OnOk}
use Rattle.pcm_base.specs.Causes.{HasCause}
use Rattle.disk_model.specs.{Disk.Files, Disk.StaysStep, Frames.Changed, Room.Room, declared.store.Store.Ghosts}
use Rattle.project_journal.specs.Gate.{EachNow}
use Rattle.block_cache.specs.Caches.{AllPass}
use Rattle.block_ledger.specs.Counts.{Counts, IsNextFree}
use Rattle.editor_state.specs.{Core.Core, Removals.AreGone, Removals.Forgets, Removals.Removes}

-- ---- which blocks

-- these are the ids of count 0 from one number to another, rising
abbrev pub AreNext : Counts → (from : ℕ) → List ℕ → (end : ℕ) → Type 0
AreNext counts from [] end = end ≡ from
AreNext counts from (id ∷ ids) end = IsNextFree counts from id × AreNext counts (id + 1) ids end

-- no id of count 0 is left from a number on
abbrev pub NoneFrom : Counts → ℕ → Type 0
NoneFrom counts from = (id : ℕ) → from ≤ id → counts id ≡ Some 0 → ⊥

-- these are the first ids of count 0, this many or all
pub record AreFirst (counts : Counts) (most : ℕ) (ids : List ℕ) : Type 0 where
  pub end : ℕ
  pub next : AreNext counts 0 ids end
  pub few : length ids ≤ most
  pub all : (length ids ≡ most) ⊎ NoneFrom counts end

-- ---- the files

-- files of ids of count 0 may go, and no other file changes
abbrev pub FreesFiles : Counts → Files → Files → Type 0
FreesFiles counts old new = (file : ℕ) → (new file ≡ old file) ⊎ ((counts file ≡ Some 0) × (new file ≡ None))

-- this many changing calls, which write nothing
abbrev pub only_calls : ℕ → Room
only_calls n = record { files = 0; bytes = 0; calls = n }

-- The first files of ids of count 0 removed, this many at most, by this many calls each. After a fault those up to
-- `end` are, and of the next one it is not known.
pub record RemovesFirst {D T E : Type 0} (disk : Ghosts D) (old : Core D) (cost most count : ℕ) (result : Result T E)
    (new : Core D) : Type 0 where
  pub ids : List ℕ
  pub end : ℕ
  pub next : AreNext old.counts 0 ids end
  pub len : length ids ≡ count
  pub few : length ids ≤ most
  pub all : OnOk result ((length ids ≡ most) ⊎ NoneFrom old.counts end)
  pub fields : new ≡ record old { store = new.store; cache = new.cache }
  pub gone : IsTrue (disk.tells old.store) → AreGone ids (disk.reads new.store)
  pub others : IsTrue (disk.tells old.store) → (id : ℕ) → (Contains ids id → ⊥)
      → (disk.reads new.store id ≡ disk.reads old.store id)
      ⊎ (disk.reads new.store id ≡ None) × IsNextFree old.counts end id
  pub done : IsTrue (disk.tells old.store) → OnOk result (Removes (disk.reads old.store) (disk.reads new.store) ids)
  pub pages : (test : ℕ → Bool) → AllPass test old.cache → AllPass test new.cache
  pub changed : Changed disk (FreesFiles old.counts) (only_calls (cost * length ids + 1)) old.store new.store
  pub faults : HasCause (disk.change_fault_count old.store) (disk.change_fault_count new.store) result
  pub read_faults : disk.read_fault_count new.store ≡ disk.read_fault_count old.store

-- these ids are the first of count 0, and each image has their files as they read
pub record AreSettled {D : Type 0} (disk : Ghosts D) (s : Core D) (count : ℕ) (store : D) : Type 0 where
  pub ids : List ℕ
  pub first : AreFirst s.counts count ids
  pub settled : EachNow disk store (λ c. (id : ℕ) → Contains ids id → c id ≡ disk.reads store id)

-- the first files of ids of count 0 synced, this many at most
pub record SyncsFirst {D T E : Type 0} (disk : Ghosts D) (old : Core D) (count : ℕ) (result : Result T E)
    (new : Core D) : Type 0 where
  pub fields : new ≡ record old { store = new.store }
  pub reads : disk.reads new.store ≡ disk.reads old.store
  pub settled : OnOk result (AreSettled disk old count new.store)
  pub changed : Changed disk StaysStep (only_calls count) old.store new.store
  pub faults : HasCause (disk.change_fault_count old.store) (disk.change_fault_count new.store) result
  pub read_faults : disk.read_fault_count new.store ≡ disk.read_fault_count old.store

-- The first files of ids of count 0 removed, this many at most, and after Ok no stop brings them back.
pub record DropsFirst {D T E : Type 0} (disk : Ghosts D) (old : Core D) (most count : ℕ) (result : Result T E)
    (new : Core D) : Type 0 where
  pub removes : RemovesFirst disk old 2 most count result new
  pub durable : IsTrue (disk.tells old.store) → OnOk result (EachNow disk new.store (AreGone removes.ids))

-- ---- the counts

-- the first ids of count 0 taken out of the counts, this many at most
pub record ForgetsFirst {D : Type 0} (old : Core D) (count : ℕ) (new : Core D) : Type 0 where
  pub ids : List ℕ
  pub first : AreFirst old.counts count ids
  pub forgets : Forgets old.counts new.counts ids
  pub fields : new ≡ record old { counts = new.counts }
