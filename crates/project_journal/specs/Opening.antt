-- What files 0 and 1 say of the journal that is opened.
use Rattle.std.specs.Prelude.{◌≡◌, ◌⊎◌, ℕ, zero, suc, ◌≤◌, None, Some, List, length, Option, Result, Ok, Err}
use Rattle.pcm_base.specs.declared.limits.TheConstants.{COUNTER_LIMIT}
use Rattle.disk_model.specs.Disk.{Files, bytes_of}
use Rattle.project_journal.specs.declared.fault.JournalFault.TheVariants.{Absent, Exists, Damaged, SpaceSpent}
use Rattle.project_journal.specs.declared.fault.JournalFault.TheVariants.{DiskFault, NoMemory}
use Rattle.project_journal.specs.Choice.{FailsIn, HasChoiceFault, IsPicked}
use Rattle.project_journal.specs.Header.{IsProject, form_of, first_failed}
use Rattle.project_journal.specs.{declared.fault.Damaged.Damaged as Fault, declared.fault.JournalFault.JournalFault}
use Rattle.project_journal.specs.{declared.reader.Reader.Reader, Fields.field, Reader.reader_form, Start.NoProject}

-- a choice between the files, of which neither may hold a project
abbrev pub Chooses : Files → Result (Option ℕ) JournalFault → Type 0
Chooses files (Ok None) = NoProject 0 files × NoProject 1 files
Chooses files (Ok (Some file)) = IsPicked file files
Chooses files (Err (Damaged file at want have)) =
    HasChoiceFault files file (record { at = at; want = want; have = have })
Chooses files (Err DiskFault) = Unit {0}
Chooses files (Err _) = ⊥

-- It is that of some files. A store that does not tell its bytes may have given any.
pub record ChoosesSome (result : Result (Option ℕ) JournalFault) : Type 0 where
  pub files : Files
  pub few : (file : ℕ) → length (bytes_of (files file)) ≤ COUNTER_LIMIT
  pub chooses : Chooses files result

-- a reader of the file with these bytes, or the first fault of its header
pub record IsStarted (file : ℕ) (bytes : List ℕ) (r : Reader) : Type 0 where
  pub project : IsProject bytes
  pub same : r.window.file ≡ file
  pub version : r.version ≡ field 5 4 bytes
  pub valid : first_failed ((form_of (field 5 4 bytes) file).tests bytes) ≡ None

pub record FailsToStart (file : ℕ) (bytes : List ℕ) (told : ℕ) (fault : Fault) : Type 0 where
  pub project : IsProject bytes
  pub same : told ≡ file
  pub fails : first_failed ((form_of (field 5 4 bytes) file).tests bytes) ≡ Some fault

abbrev pub StartsIn : ℕ → List ℕ → Result Reader JournalFault → Type 0
StartsIn file bytes (Ok r) = IsStarted file bytes r
StartsIn file bytes (Err Absent) = IsProject bytes → ⊥
StartsIn file bytes (Err (Damaged told at want have)) =
    FailsToStart file bytes told (record { at = at; want = want; have = have })
StartsIn file bytes (Err DiskFault) = Unit {0}
StartsIn file bytes (Err NoMemory) = Unit {0}
StartsIn file bytes (Err Exists) = ⊥
StartsIn file bytes (Err (SpaceSpent have need)) = ⊥

pub record StartsSome (file : ℕ) (result : Result Reader JournalFault) : Type 0 where
  pub bytes : List ℕ
  pub few : length bytes ≤ COUNTER_LIMIT
  pub starts : StartsIn file bytes result

-- files 0 and 1 with these bytes, and no other
abbrev pub two_files : List ℕ → List ℕ → Files
two_files first second zero = Some first
two_files first second (suc zero) = Some second
two_files first second (suc (suc n)) = None

-- which of two projects counts
abbrev pub ChoosesNewer : List ℕ → List ℕ → Result ℕ JournalFault → Type 0
ChoosesNewer first second (Ok file) = IsPicked file (two_files first second)
ChoosesNewer first second (Err (Damaged file at want have)) =
    FailsIn first second file (record { at = at; want = want; have = have })
ChoosesNewer first second (Err _) = ⊥

-- a reader of the file that is chosen, whose header has no fault
pub record IsOpened (files : Files) (r : Reader) : Type 0 where
  pub picked : IsPicked r.window.file files
  pub version : r.version ≡ field 5 4 (bytes_of (files r.window.file))
  pub valid : first_failed ((reader_form r).tests (bytes_of (files r.window.file))) ≡ None

-- the first fault of the header that is chosen
pub record HasHeaderFault (files : Files) (file : ℕ) (fault : Fault) : Type 0 where
  pub picked : IsPicked file files
  pub fails : first_failed ((form_of (field 5 4 (bytes_of (files file))) file).tests (bytes_of (files file)))
      ≡ Some fault

abbrev pub Opens : Files → Result Reader JournalFault → Type 0
Opens files (Ok r) = IsOpened files r
Opens files (Err Absent) = NoProject 0 files × NoProject 1 files
Opens files (Err (Damaged file at want have)) =
    HasChoiceFault files file (record { at = at; want = want; have = have })
    ⊎ HasHeaderFault files file (record { at = at; want = want; have = have })
Opens files (Err DiskFault) = Unit {0}
Opens files (Err NoMemory) = Unit {0}
Opens files (Err Exists) = ⊥
Opens files (Err (SpaceSpent have need)) = ⊥

-- The answer is that of some files, which have no more bytes than files may have. A store that does not tell its bytes
-- may have given any.
pub record OpensSome (result : Result Reader JournalFault) : Type 0 where
  pub files : Files
  pub few : (file : ℕ) → length (bytes_of (files file)) ≤ COUNTER_LIMIT
  pub opens : Opens files result
