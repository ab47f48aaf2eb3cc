-- Which files a call removes: a reclaim those of blocks that nothing names, the least ids first, a compact that of the
-- journal of before, and another call none.
use Rattle.std.specs.Prelude.{◌≡◌, ◌⊎◌, ◌↔◌, ℕ, ◌≤◌, ◌<◌, IsTrue, IsSome, Option, Some, None, List, [], ◌∷◌, length}
use Rattle.std.specs.Prelude.{Contains, Result, OnOk, OnErr, IfOk, IfErr, IfSome}
use Rattle.std.specs.List.Sorted.{IsStrictlyIncreasing}
use Rattle.pcm_base.specs.declared.limits.TheConstants.{COUNTER_LIMIT, FIRST_BLOCK}
use Rattle.pcm_base.specs.declared.answer.Reply.TheVariants.{Freed, Packed}
use Rattle.pcm_base.specs.declared.command.Command.TheVariants.{Compact, Reclaim}
use Rattle.pcm_base.specs.{Causes.HasCause, declared.answer.Reply.Reply, declared.command.Call.Call}
use Rattle.pcm_base.specs.{declared.command.Call.TheVariants.Line, declared.refusal.Refusal.Refusal}
use Rattle.disk_model.specs.{Disk.Files, Disk.RemoveStep, Frames.Changed, Room.Room, declared.store.Store.Ghosts}
use Rattle.project_journal.specs.{Choice.other_file, Gate.EachNow}
use Rattle.block_cache.specs.Caches.{IsCacheWithout}
use Rattle.block_ledger.specs.Counts.{Counts, IsFirstFree}
use Rattle.editor_state.specs.{Core.Core, Occurrences.times_named, Packing.packed_core, Packing.packed_text}
use Rattle.editor_state.specs.{Studios.IsHeld, Studios.named_blocks}
use Rattle.pcm_base.specs.declared.refusal.Refusal.TheVariants as refusal

-- ---- one file

-- what a removal asks of the disk
abbrev pub removal_room : Room
removal_room = record { files = 0; bytes = 0; calls = 1 }

-- the file of a block removed, which the disk may still have at a stop; or the disk failed
pub record Drops {D T E : Type 0} (disk : Ghosts D) (old : Core D) (id : ℕ) (result : Result T E)
    (new : Core D) : Type 0 where
  pub fields : new ≡ record old { store = new.store; cache = new.cache }
  pub removed : IsTrue (disk.tells old.store) → OnOk result (disk.reads new.store id ≡ None)
  pub changed : Changed disk (RemoveStep id) removal_room old.store new.store
  pub faults : HasCause (disk.change_fault_count old.store) (disk.change_fault_count new.store) result
  pub read_faults : disk.read_fault_count new.store ≡ disk.read_fault_count old.store
  -- no page of the block is kept, after any answer, and every other page is
  pub without : IsCacheWithout id old.cache new.cache

-- ---- all of them

-- these ids went out of the counts: they had the count 0, and are below all that still have it
pub record Forgets (old new : Counts) (ids : List ℕ) : Type 0 where
  pub rising : IsStrictlyIncreasing ids
  pub free : (id : ℕ) → Contains ids id → old id ≡ Some 0
  pub gone : (id : ℕ) → Contains ids id → new id ≡ None
  pub least : (id other : ℕ) → Contains ids id → new other ≡ Some 0 → id < other
  pub others : (id : ℕ) → (Contains ids id → ⊥) → new id ≡ old id

-- none of these files is there
abbrev pub AreGone : List ℕ → Files → Type 0
AreGone ids files = (id : ℕ) → Contains ids id → files id ≡ None

-- these files are gone, and all others as they were
pub record Removes (old new : Files) (ids : List ℕ) : Type 0 where
  pub gone : AreGone ids new
  pub others : (id : ℕ) → (Contains ids id → ⊥) → new id ≡ old id

-- the same where a removal or a sync failed: the file of the least id that is left may be gone too
pub record RemovesPart (counts : Counts) (old new : Files) (ids : List ℕ) : Type 0 where
  pub gone : AreGone ids new
  pub others : (id : ℕ) → (Contains ids id → ⊥) → (new id ≡ old id) ⊎ (new id ≡ None) × IsFirstFree counts id

-- a block file that nothing names
pub record IsUnnamed {D : Type 0} (disk : Ghosts D) (s : Core D) (id : ℕ) : Type 0 where
  pub least : FIRST_BLOCK ≤ id
  pub most : id < COUNTER_LIMIT
  pub file : IsSome (disk.reads s.store id)
  pub unnamed : times_named id (named_blocks s) ≡ 0

-- the block files are those that the studio names
abbrev pub HasOnlyNamed : {D : Type 0} → Ghosts D → Core D → Type 0
HasOnlyNamed disk s =
    (id : ℕ) → FIRST_BLOCK ≤ id → id < COUNTER_LIMIT → IsSome (disk.reads s.store id) ↔ (0 < times_named id (named_blocks s))

-- ---- by the call

-- What a reclaim does: nothing names the files that it removes, and they have the least ids of these. It answers how
-- many there are, which is the limit or all. Which files went holds of any store that reports its bytes. That these
-- were there, and that no other was left, holds of a store that holds what the studio stands for.
pub record FreesUnnamed {D : Type 0} (disk : Ghosts D) (old : Core D) (limit : Option ℕ) (told : Result Reply Refusal)
    (ids : List ℕ) (new : Core D) : Type 0 where
  pub count : IfOk told (λ r. r ≡ Freed (length ids))
  pub within : IfSome limit (λ m. length ids ≤ m)
  pub all : IsHeld disk old
      → OnOk told ((limit ≡ Some (length ids)) ⊎ ((id : ℕ) → IsUnnamed disk new id → ⊥))
  pub rising : IsStrictlyIncreasing ids
  -- whatever the disk tells, no block goes that anything names
  pub spares : (id : ℕ) → Contains ids id → times_named id (named_blocks old) ≡ 0
  pub unnamed : old.stopped ≡ None → IsHeld disk old → (id : ℕ) → Contains ids id → IsUnnamed disk old id
  pub least : old.stopped ≡ None → IsHeld disk old → (id other : ℕ) → Contains ids id → IsUnnamed disk new other
      → id < other
  pub done : IsTrue (disk.tells old.store) → OnOk told (Removes (disk.reads old.store) (disk.reads new.store) ids)
  pub part : IsTrue (disk.tells old.store)
      → OnErr told (RemovesPart new.counts (disk.reads old.store) (disk.reads new.store) ids)
  -- no stop brings them back
  pub for_good : IsTrue (disk.tells old.store) → OnOk told (EachNow disk new.store (AreGone ids))
  -- without a limit nothing is left that nothing names
  pub only : limit ≡ None → IsHeld disk old → OnOk told (HasOnlyNamed disk new)
  -- whatever the disk tells, nothing else of the studio changes
  pub fields : new ≡ record old { store = new.store; cache = new.cache; counts = new.counts; stopped = new.stopped }
  -- it wants no memory
  pub why : IfErr told (λ e. (e ≡ refusal.DiskFault) ⊎ (faults : ℕ) × (e ≡ refusal.Stopped faults))

-- What a compact does: the journal is one header, in the other of its two files, and the file that it was in goes.
pub record PacksJournal {D : Type 0} (disk : Ghosts D) (old : Core D) (told : Result Reply Refusal) (new : Core D)
    : Type 0 where
  -- it answers the size of the file, which has an open gate and the text, and nothing else
  pub size : IfOk told (λ r. r ≡ Packed (length (1 ∷ packed_text old)))
  pub alone : IsTrue (disk.tells old.store)
      → OnOk told (disk.reads new.store (other_file old.file) ≡ Some (1 ∷ packed_text old))
  -- no stop takes that back on a disk that keeps to the model
  pub settled : IsTrue (disk.keeps_model old.store)
      → OnOk told (EachNow disk new.store (λ c. c (other_file old.file) ≡ Some (1 ∷ packed_text old)))
  -- and none brings the old file back
  pub gone : IsTrue (disk.tells old.store) → OnOk told (EachNow disk new.store (λ c. c old.file ≡ None))
  -- whatever the disk tells, nothing else of the studio changes
  pub fields : OnOk told (new ≡ packed_core old new.store)

-- By the call, the ids of the blocks whose files it removes. A compact removes none of these, but the old journal.
abbrev pub Frees : {D : Type 0} → Ghosts D → Core D → Call → Result Reply Refusal → List ℕ → Core D → Type 0
Frees disk old (Line (Reclaim limit)) told removed new = FreesUnnamed disk old limit told removed new
Frees disk old (Line Compact) told removed new = (removed ≡ []) × PacksJournal disk old told new
Frees disk old call told removed new = removed ≡ []
