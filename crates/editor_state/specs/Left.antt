-- What a call leaves of all that it is not about, on every store: of other files, and of the studio that refused it.
use Rattle.std.specs.Prelude.{◌≡◌, ◌↔◌, ◌⊎◌, ℕ, ◌≤◌, ◌<◌, IsTrue, IsSome, Some, None, Result, Err, IfErr, false, List}
use Rattle.std.specs.Prelude.{Contains}
use Rattle.pcm_base.specs.declared.limits.TheConstants.{COUNTER_LIMIT, FIRST_BLOCK}
use Rattle.pcm_base.specs.{declared.command.Call.Call, declared.command.Call.TheVariants.Line}
use Rattle.pcm_base.specs.{declared.command.Command.TheVariants.Reclaim, declared.refusal.Refusal.Refusal}
use Rattle.disk_model.specs.{Disk.Files, Frames.Kept, declared.store.Store.Ghosts}
use Rattle.block_ledger.specs.Counts.{Counts}
use Rattle.envelope_view.specs.Answers.{IsDamagedIn}
use Rattle.editor_state.specs.Adding.{HasFailed, stopped_by}
use Rattle.editor_state.specs.{Core.Core, Exchanges.may_have_begun, Makes.HasMissed, Studios.named_blocks}
use Rattle.pcm_base.specs.declared.refusal.Refusal.TheVariants as refusal

-- ---- other files

-- The file of a block that a call may have begun, which found one number to be the next block's and left the other. The
-- last may have been begun in vain.
pub record IsBegun (first last file : ℕ) : Type 0 where
  pub least : first ≤ file
  pub most : file ≤ last
  pub block : file < COUNTER_LIMIT

-- the files that a call may remove: a reclaim those of blocks that nothing names, and another call none
abbrev pub MayRemove : Call → Counts → ℕ → Type 0
MayRemove (Line (Reclaim limit)) counts file = counts file ≡ Some 0
MayRemove call counts file = ⊥

-- Each file but those of a journal and of the blocks that were begun is as it was, or it was removed where it may be.
pub record LeavesOthers (first last : ℕ) (MayGo : ℕ → Type 0) (old new : Files) : Type 0 where
  pub others : (file : ℕ) → 2 ≤ file → (IsBegun first last file → ⊥)
      → (new file ≡ old file) ⊎ (MayGo file × (new file ≡ None))

-- Of many calls: each file that is neither a journal's nor a block's is as it was.
pub record LeavesForeign (old new : Files) : Type 0 where
  pub foreign : (file : ℕ) → 2 ≤ file → ((FIRST_BLOCK ≤ file) × (file < COUNTER_LIMIT) → ⊥) → new file ≡ old file

-- ---- the studio

-- It stops where a change of the disk failed, which is reported, and nowhere else.
abbrev pub Stops : {D R : Type 0} → Ghosts D → Core D → Result R Refusal → Core D → Type 0
Stops disk old told new =
    ((new.stopped ≡ old.stopped) × (disk.change_fault_count new.store ≡ disk.change_fault_count old.store))
    ⊎ ((new.stopped ≡ (stopped_by disk old new.store).stopped) × HasFailed disk old.store new.store
    × (told ≡ Err refusal.DiskFault))

-- What is reported of the disk is so: a read or a change of it failed; or the file of a block that the studio names is
-- not as it has to be, at this place.
abbrev pub IsSoOf : {D : Type 0} → Ghosts D → Core D → Core D → Refusal → Type 0
IsSoOf disk old new refusal.DiskFault = HasMissed disk old.store new.store ⊎ HasFailed disk old.store new.store
IsSoOf disk old new (refusal.Damaged file at want have) = IsTrue (disk.tells old.store)
    → IsDamagedIn (disk.reads old.store) (named_blocks old) (refusal.Damaged file at want have)
IsSoOf disk old new why = Unit {0}

-- The ids that are counted after a call: those that were, and those of the blocks that were made, but for those whose
-- files were removed.
abbrev pub CountsIds : {D : Type 0} → Core D → List ℕ → Core D → Type 0
CountsIds old removed new =
    (id : ℕ) → IsSome (new.counts id)
    ↔ ((IsSome (old.counts id) ⊎ ((old.next_block ≤ id) × (id < new.next_block))) × (Contains removed id → ⊥))

-- A refusal that does not come of the disk leaves the disk as it was, but for an import that a vault cuts off, which
-- may have made blocks that nothing names.
abbrev pub Untouched : {D R : Type 0} → Ghosts D → Core D → Call → Result R Refusal → Core D → Type 0
Untouched disk old call told new = IfErr told (λ why. may_have_begun call why ≡ false → Kept disk old.store new.store)

-- A refusal leaves all as it was but for the disk, that the studio may have stopped, and the ids of blocks that nothing
-- names.
pub record Left {D : Type 0} (disk : Ghosts D) (old new : Core D) (why : Refusal) : Type 0 where
  pub same : new ≡ record old {
    store = new.store;
    cache = new.cache;
    counts = new.counts;
    next_block = new.next_block;
    stopped = new.stopped;
  }
  pub so : IsSoOf disk old new why
