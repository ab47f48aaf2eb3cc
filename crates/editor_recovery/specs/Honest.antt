-- Honest disks, and what opening one finds.
use Rattle.std.specs.Prelude.{◌≡◌, ◌⊎◌, ℕ, IsTrue, Contains, Result, Ok, Err}
use Rattle.pcm_base.specs.declared.block.BlockRef.{BlockRef}
use Rattle.disk_model.specs.{Disk.Files, declared.store.Store.Ghosts}
use Rattle.sample_block.specs.Blocks.{blocks}
use Rattle.project_journal.specs.{Gate.EachNow, Header.Form, Journal.Log}
use Rattle.record_body.specs.Saved.{Saved, opened, Keeps}
use Rattle.project_state.specs.Meaning.{history_blocks}
use Rattle.editor_recovery.specs.Standing.{HasNone, Stands}
use Rattle.editor_recovery.specs.{declared.fault.OpenFault.OpenFault, Files.NoForeign, Found.Found, Opening.IsFound}
use Rattle.record_body.specs.Saved as saved
use Rattle.editor_recovery.specs.declared.fault.OpenFault.TheVariants as fault

-- a point of the project that stands in a disk's journal names this id
pub record Names (files : Files) (id : ℕ) : Type 0 where
  pub form : Form
  pub log : Log
  pub kept : Saved
  pub stands : Stands files form log kept
  pub block : BlockRef
  pub named : Contains (history_blocks kept.history) block
  pub is : block.id ≡ id

-- A disk is honest where it keeps to the model, and each image that a stop may leave now has no foreign file and has no
-- project or keeps one; and no two of these differ in the samples of a block that points of both name.
pub record IsHonest {D : Type 0} (disk : Ghosts D) (store : D) : Type 0 where
  pub model : IsTrue (disk.keeps_model store)
  pub foreign : EachNow disk store NoForeign
  pub whole : EachNow disk store (λ c. HasNone c ⊎ ((found : saved.Opened) × Keeps c found))
  pub same : EachNow disk store
      (λ c. EachNow disk store (λ d. (id : ℕ) → Names c id → Names d id → blocks c id ≡ blocks d id))

-- The disk keeps one project, which is what was found, and each image after the opening keeps it.
pub record FindsSaved {D : Type 0} (disk : Ghosts D) (old new : D) (f : Found) : Type 0 where
  pub form : Form
  pub log : Log
  pub kept : Saved
  pub keeps : Keeps (disk.reads old) (opened log kept (disk.reads old))
  pub each : EachNow disk new (λ c. Keeps c (opened log kept (disk.reads old)))
  pub found : IsFound (disk.reads old) form log kept f

-- An honest disk has no fault and no foreign file.
abbrev pub OpensHonest : {D : Type 0} → Ghosts D → (old new : D) → Result Found OpenFault → Type 0
OpensHonest disk old new (Ok f) = FindsSaved disk old new f
OpensHonest disk old new (Err fault.Absent) = HasNone (disk.reads old)
OpensHonest disk old new (Err fault.DiskFault) = Unit {0}
OpensHonest disk old new (Err fault.NoMemory) = Unit {0}
OpensHonest disk old new (Err _) = ⊥
