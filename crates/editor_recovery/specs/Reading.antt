-- What reading the journal and listing the files answers.
use Rattle.std.specs.Prelude.{◌≡◌, ℕ, List, Result, Ok, Err}
use Rattle.disk_model.specs.Disk.{Files, bytes_of}
use Rattle.project_journal.specs.{Choice.IsPicked, Header.Form, Header.IsForm, Journal.Contents, Opening.IsOpened}
use Rattle.editor_recovery.specs.{declared.disk.Disk.Disk, declared.fault.OpenFault.OpenFault, Listing.AreFiles}
use Rattle.editor_recovery.specs.{Files.IsFirstForeign, Files.NoForeign, Opening.HeaderFault, Standing.HasNone}
use Rattle.editor_recovery.specs.{Standing.HasSome}
use Rattle.project_journal.specs.Journal as journal
use Rattle.editor_recovery.specs.declared.fault.OpenFault.TheVariants as fault

-- a fault of the choice or of a header, where no file is foreign
abbrev pub Refuses : Files → (file at want have : ℕ) → Result Disk OpenFault → Type 0
Refuses files file at want have (Ok d) = ⊥
Refuses files file at want have (Err fault.Absent) = ⊥
Refuses files file at want have (Err fault.Exists) = ⊥
Refuses files file at want have (Err (fault.Damaged file' at' want' have')) =
    NoForeign files × (file' ≡ file) × (at' ≡ at) × (want' ≡ want) × (have' ≡ have)
Refuses files file at want have (Err (fault.Foreign file')) = IsFirstForeign files file'
Refuses files file at want have (Err fault.DiskFault) = Unit {0}
Refuses files file at want have (Err fault.NoMemory) = Unit {0}

-- the journal that is chosen, and the files
pub record IsRead (files : Files) (form : Form) (j : Contents) (numbers : List ℕ) : Type 0 where
  pub known : IsForm form
  pub picked : IsPicked form.file files
  pub read : journal.IsRead form (bytes_of (files form.file)) j
  pub listed : AreFiles files numbers
  pub foreign : NoForeign files

-- a header without faults, and the files, none of which is foreign
abbrev pub ReadsDisk : Files → Result Disk OpenFault → Type 0
ReadsDisk files (Ok d) = IsOpened files d.reader × AreFiles files d.files.items × NoForeign files
ReadsDisk files (Err fault.Absent) = HasNone files
ReadsDisk files (Err fault.Exists) = ⊥
ReadsDisk files (Err (fault.Damaged file at want have)) = HasSome files × NoForeign files
    × HeaderFault files file (record { at = at; want = want; have = have })
ReadsDisk files (Err (fault.Foreign file)) = HasSome files × IsFirstForeign files file
ReadsDisk files (Err fault.DiskFault) = Unit {0}
ReadsDisk files (Err fault.NoMemory) = Unit {0}
