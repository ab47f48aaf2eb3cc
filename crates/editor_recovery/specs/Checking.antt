-- What a check of a studio's blocks answers.
use Rattle.std.specs.Prelude.{◌≡◌, ℕ, ◌<◌, IsTrue, List, length, take, slice_index_or, Contains, Result, Ok, Err, IfErr}
use Rattle.std.specs.Prelude.{IfOk, IsOkUnless}
use Rattle.pcm_base.specs.declared.block.BlockRef.{BlockRef}
use Rattle.disk_model.specs.{Disk.Files, Frames.Kept, declared.store.Store.Ghosts}
use Rattle.sample_block.specs.Sources.{IsWhole, AllWhole}
use Rattle.block_store.specs.{declared.fault.BlockFault.BlockFault, Reads.Counted}
use Rattle.project_journal.specs.Gate.{EachSince}
use Rattle.record_body.specs.Saved.{Keeps}
use Rattle.project_state.specs.Meaning.{history_blocks}
use Rattle.editor_state.specs.{Core.Core, Studios.IsHeld, Studios.IsStudio, Studios.shown, Studios.studio_of}
use Rattle.editor_views.specs.Scans.{AreIdsOf, BlockScanned, Differs, HaveOneLength}
use Rattle.editor_recovery.specs.{declared.fault.OpenFault.OpenFault, Causes.Causes}
use Rattle.block_store.specs.declared.fault.BlockFault.TheVariants as block
use Rattle.editor_recovery.specs.declared.fault.OpenFault.TheVariants as fault

-- this many ids these blocks have
abbrev pub IsCountOf : List BlockRef → ℕ → Type 0
IsCountOf bs n = (ids : List ℕ) × AreIdsOf bs ids × (n ≡ length ids)

-- One of these blocks is not whole, its file differs so, and all those of lower ids are whole.
pub record FirstDamaged (files : Files) (bs : List BlockRef) (file at want have : ℕ) : Type 0 where
  pub block : BlockRef
  pub named : Contains bs block
  pub differs : Differs files block file (record { at = at; want = want; have = have })
  pub lower : (other : BlockRef) → Contains bs other → other.id < block.id → IsWhole files other

-- all of these blocks are whole, and this many ids they have, or what is wrong with the first that is not
abbrev pub ChecksAll : Files → List BlockRef → Result ℕ OpenFault → Type 0
ChecksAll files bs (Ok n) = AllWhole files bs × IsCountOf bs n
ChecksAll files bs (Err (fault.Damaged file at want have)) = FirstDamaged files bs file at want have
ChecksAll files bs (Err fault.DiskFault) = Unit {0}
ChecksAll files bs (Err fault.NoMemory) = Unit {0}
ChecksAll files bs (Err _) = ⊥

-- what a check can meet, whatever the disk tells
abbrev pub IsCheckFault : OpenFault → Type 0
IsCheckFault (fault.Damaged file at want have) = Unit {0}
IsCheckFault fault.DiskFault = Unit {0}
IsCheckFault fault.NoMemory = Unit {0}
IsCheckFault _ = ⊥

-- no damage was found
abbrev pub IsNotDamage : OpenFault → Type 0
IsNotDamage fault.DiskFault = Unit {0}
IsNotDamage fault.NoMemory = Unit {0}
IsNotDamage _ = ⊥

-- The files of the blocks that points name are read whole, one after another. Nothing of the studio or of its disk
-- changes, whatever the disk tells, but for the count of failed reads.
pub record ChecksStudio {D : Type 0} (disk : Ghosts D) (old : Core D) (result : Result ℕ OpenFault) (new : Core D)
    : Type 0 where
  pub tests : IsTrue (disk.tells old.store) → ChecksAll (disk.reads old.store) (history_blocks old.history) result
  pub faults : IfErr result IsCheckFault
  pub count : HaveOneLength (history_blocks old.history) → IfOk result (IsCountOf (history_blocks old.history))
  -- a disk that holds what the studio stands for has no damaged block
  pub valid : IsHeld disk old → IfErr result IsNotDamage
  pub cause : Causes disk old.store new.store result
  pub same : new ≡ record old { store = new.store }
  pub kept : Kept disk old.store new.store
  pub studio : IsStudio disk new
  pub held : IsHeld disk old → IsHeld disk new
  -- at any moment each image has the project
  pub any_moment : IsHeld disk old
      → EachSince disk old.store new.store (λ c. Keeps c (shown (studio_of disk old)))

-- some blocks of a studio, up to the first that is not whole
abbrev pub AllScanned : {T : Type 0} → Files → List BlockRef → Result T BlockFault → Type 0
AllScanned files bs (Ok done) = AllWhole files bs
AllScanned files bs (Err why) =
    (k : ℕ) × (b : BlockRef) × (k < length bs) × (slice_index_or bs k b ≡ b)
    × AllWhole files (take k bs) × BlockScanned {T = Unit {0}} files b (Err why)

-- The same of blocks of a list, one after another.
pub record ScansAll {D T : Type 0} (disk : Ghosts D) (old : Core D) (bs : List BlockRef) (result : Result T BlockFault)
    (new : Core D) : Type 0 where
  pub scanned : IsTrue (disk.tells old.store) → AllScanned (disk.reads old.store) bs result
  pub counted : Counted result (disk.read_fault_count old.store) (disk.read_fault_count new.store)
  pub valid : IsHeld disk old → IsOkUnless result block.DiskFault
  pub same : new ≡ record old { store = new.store }
  pub kept : Kept disk old.store new.store
  pub studio : IsStudio disk new
  pub held : IsHeld disk old → IsHeld disk new
  pub any_moment : IsHeld disk old
      → EachSince disk old.store new.store (λ c. Keeps c (shown (studio_of disk old)))
