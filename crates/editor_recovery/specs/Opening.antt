-- What opening a disk answers.
use Rattle.std.specs.Prelude.{◌≡◌, ◌⊎◌, ℕ, ◌+◌, ◌*◌, ◌≤◌, [], Some, Result, Ok, Err}
use Rattle.pcm_base.specs.declared.block.BlockRef.{BlockRef}
use Rattle.disk_model.specs.Disk.{Files, bytes_of}
use Rattle.sample_block.specs.Spelling.{size_of}
use Rattle.project_journal.specs.{declared.fault.Damaged.Damaged, Choice.HasChoiceFault, Choice.IsPicked, Header.Form}
use Rattle.project_journal.specs.{Header.IsForm, Journal.Log, Journal.Contents, Journal.IsRead, Opening.HasHeaderFault}
use Rattle.record_body.specs.Saved.{Saved, version_of}
use Rattle.project_state.specs.{Meaning.history_blocks, Numbers.unnumbered_history}
use Rattle.layout_uses.specs.{Layouts.AreDrawn, Layouts.AreNumbered, Layouts.history_tracks, Tallies.AreCounts}
use Rattle.journal_replay.specs.Faults.{journal_fault}
use Rattle.editor_recovery.specs.Files.{IsFirstForeign, NoForeign, IsNextBlock}
use Rattle.editor_recovery.specs.Sizes.{IsFirstWrong, AllHaveSize, file_size}
use Rattle.editor_recovery.specs.Standing.{HasNone, HasSome, Stands}
use Rattle.editor_recovery.specs.{declared.fault.OpenFault.OpenFault, Found.Found, Ledgers.IsLedgerOf}
use Rattle.editor_recovery.specs.declared.fault.OpenFault.TheVariants as fault

-- a project stands in a disk's journal, and each file of a block that its points name has its size
pub record HasProject (files : Files) (form : Form) (log : Log) (kept : Saved) : Type 0 where
  pub stands : Stands files form log kept
  pub sizes : AllHaveSize files (history_blocks kept.history)

-- the first fault of the choice between both files, or of the header that is chosen
abbrev pub HeaderFault : Files → ℕ → Damaged → Type 0
HeaderFault files file d = HasChoiceFault files file d ⊎ HasHeaderFault files file d

-- or that of the header's points and of the records, or an early end of the file after them
pub record RecordFault (files : Files) (file : ℕ) (d : Damaged) : Type 0 where
  pub form : Form
  pub known : IsForm form
  pub picked : IsPicked form.file files
  pub journal : Contents
  pub read : IsRead form (bytes_of (files form.file)) journal
  pub same : file ≡ form.file
  pub first : journal_fault form journal ≡ Some d

-- or, where there is none, that of a block's file
pub record SizeFault (files : Files) (file : ℕ) (d : Damaged) : Type 0 where
  pub form : Form
  pub log : Log
  pub kept : Saved
  pub stands : Stands files form log kept
  pub block : BlockRef
  pub first : IsFirstWrong files (history_blocks kept.history) block
  pub tells : (file ≡ block.id) × (d ≡ record { at = 0; want = size_of block.len; have = file_size files block.id })

abbrev pub FirstFault : Files → ℕ → Damaged → Type 0
FirstFault files file d = HeaderFault files file d ⊎ (RecordFault files file d ⊎ SizeFault files file d)

-- what was found of a disk with a project
pub record IsFound (files : Files) (form : Form) (log : Log) (kept : Saved) (f : Found) : Type 0 where
  pub rate : f.rate ≡ log.rate
  pub block_size : f.block_size ≡ log.block_size
  pub history : unnumbered_history f.history ≡ kept.history
  -- Layouts of one number are the same, and each number was drawn. The next one is at most the journal's end: for each
  -- number below it the journal has 9 bytes, beside its header's fields and 16 bytes for each point of the header.
  pub layouts : f.next_layout ≤ f.journal_end
  pub layouts_least : 1 ≤ f.next_layout
  pub layouts_few : 9 * f.next_layout + 16 * log.base.count + form.header_size ≤ 9 + f.journal_end
  pub numbered : AreNumbered (history_tracks f.history)
  pub drawn : AreDrawn f.next_layout (history_tracks f.history)
  -- the layouts that points use are counted, and the blocks that these name, of each layout once
  pub counted : AreCounts (history_tracks f.history) [] f.uses f.counts
  pub ledger : IsLedgerOf files f.counts
  pub next_block : IsNextBlock files kept.next_block f.next_block
  pub next_track : f.next_track ≡ kept.next_track
  pub commit : f.commit_number ≡ kept.commit
  pub file : f.file ≡ form.file
  pub version : f.version ≡ version_of form
  pub generation : f.generation ≡ log.base.generation

pub record Finds (files : Files) (f : Found) : Type 0 where
  pub form : Form
  pub log : Log
  pub kept : Saved
  pub project : HasProject files form log kept
  pub found : IsFound files form log kept f
  pub foreign : NoForeign files

-- When each answer comes: first whether a project is there, then a foreign file, then the first fault.
abbrev pub Opens : Files → Result Found OpenFault → Type 0
Opens files (Ok f) = Finds files f
Opens files (Err fault.Absent) = HasNone files
Opens files (Err (fault.Foreign file)) = HasSome files × IsFirstForeign files file
Opens files (Err (fault.Damaged file at want have)) = HasSome files × NoForeign files
    × FirstFault files file (record { at = at; want = want; have = have })
Opens files (Err fault.DiskFault) = Unit {0}
Opens files (Err fault.NoMemory) = Unit {0}
Opens files (Err fault.Exists) = ⊥
