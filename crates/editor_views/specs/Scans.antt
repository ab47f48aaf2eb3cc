-- What a scan of one block tells.
use Rattle.std.specs.Prelude.{◌≡◌, ◌↔◌, ℕ, IsTrue, Some, List, Contains, Result, Ok, Err, IsOkUnless}
use Rattle.std.specs.List.Sorted.{IsNonDecreasingBy, IsStrictlyIncreasing}
use Rattle.pcm_base.specs.declared.block.BlockRef.{BlockRef}
use Rattle.disk_model.specs.{Disk.Files, Disk.bytes_of, Frames.Kept, declared.store.Store.Ghosts}
use Rattle.block_store.specs.{declared.fault.BlockFault.BlockFault, Reads.Counted}
use Rattle.sample_block.specs.{declared.damage.Damaged.Damaged, Faults.damage_of, Sources.IsWhole}
use Rattle.block_ledger.specs.Counts.{AreAll}
use Rattle.project_journal.specs.Gate.{EachSince}
use Rattle.record_body.specs.Saved.{Keeps}
use Rattle.editor_state.specs.Core.{Core}
use Rattle.editor_state.specs.Studios.{IsHeld, IsStudio, ids_of, shown, studio_of}
use Rattle.pcm_base.specs.declared.refusal.Refusal.TheVariants as refusal
use Rattle.block_store.specs.declared.fault.BlockFault.TheVariants as fault

-- the ids of these blocks, each once and rising
abbrev pub AreIdsOf : List BlockRef → List ℕ → Type 0
AreIdsOf bs = AreAll (Contains (ids_of bs))

-- the file of the block differs so from the one that it has to be: its size, or the first field
abbrev pub Differs : Files → BlockRef → ℕ → Damaged → Type 0
Differs files b file found = (file ≡ b.id) × (damage_of b.id b.len (bytes_of (files b.id)) ≡ Some found)

-- ---- all the blocks that points name, one after another

-- two of these that have one id have one length
abbrev pub HaveOneLength : List BlockRef → Type 0
HaveOneLength bs = (a b : BlockRef) → Contains bs a → Contains bs b → a.id ≡ b.id → a.len ≡ b.len

-- these blocks, and no others, by rising id, each of them once where no id has two lengths
pub record AreListed (bs listed : List BlockRef) : Type 0 where
  pub rising : IsNonDecreasingBy (λ (b : BlockRef). b.id) listed
  pub same : (b : BlockRef) → Contains listed b ↔ Contains bs b
  pub once : HaveOneLength bs → IsStrictlyIncreasing (ids_of listed)

-- what the files have of a block, by the answer
abbrev pub BlockScanned : {T : Type 0} → Files → BlockRef → Result T BlockFault → Type 0
BlockScanned files b (Ok done) = IsWhole files b
BlockScanned files b (Err fault.DiskFault) = Unit {0}
BlockScanned files b (Err (fault.Damaged file found)) = Differs files b file found

-- The file of this block is read whole and compared with what it has to be. Nothing of the studio or of its disk
-- changes, whatever the disk tells, but for the count of failed reads.
pub record ScansBlock {D T : Type 0} (disk : Ghosts D) (old : Core D) (b : BlockRef) (result : Result T BlockFault)
    (new : Core D) : Type 0 where
  pub scanned : IsTrue (disk.tells old.store) → BlockScanned (disk.reads old.store) b result
  pub counted : Counted result (disk.read_fault_count old.store) (disk.read_fault_count new.store)
  -- a disk that holds what the studio stands for has no damaged block
  pub valid : IsHeld disk old → IsOkUnless result fault.DiskFault
  pub same : new ≡ record old { store = new.store }
  pub kept : Kept disk old.store new.store
  pub studio : IsStudio disk new
  pub held : IsHeld disk old → IsHeld disk new
  -- at any moment each image has the project
  pub any_moment : IsHeld disk old
      → EachSince disk old.store new.store (λ c. Keeps c (shown (studio_of disk old)))
