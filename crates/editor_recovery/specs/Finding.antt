-- What the steps of opening answer.
use Rattle.std.specs.Prelude.{◌≡◌, ℕ, ◌+◌, ◌*◌, ◌≤◌, None, Some, List, [], map, Result, Ok, Err}
use Rattle.pcm_base.specs.declared.limits.TheConstants.{COUNTER_LIMIT, LEAST_END}
use Rattle.pcm_base.specs.declared.block.BlockRef.{BlockRef}
use Rattle.disk_model.specs.{Disk.Files, declared.store.Store.Ghosts}
use Rattle.sample_block.specs.Spelling.{size_of}
use Rattle.project_journal.specs.{declared.fault.JournalFault.JournalFault, Header.Form, Header.IsFormat}
use Rattle.project_journal.specs.{Journal.Contents, Journal.body_at, Journal.log_of, Reader.IsStored}
use Rattle.row_ledger.specs.Lists.{counts_of}
use Rattle.record_body.specs.Saved.{Begins, LeadIn, version_of}
use Rattle.layout_uses.specs.{Layouts.history_tracks, Tallies.IsTally}
use Rattle.journal_replay.specs.Folds.{saved_of, HasLayoutNumbers, IsValid}
use Rattle.journal_replay.specs.{Bases.base_of, Faults.journal_fault, Heads.HasFault}
use Rattle.editor_recovery.specs.Sizes.{AllHaveSize, IsFirstWrong, file_size, first_wrong}
use Rattle.editor_recovery.specs.{declared.disk.Folded.Folded, declared.finding.TheConstants.PAGES}
use Rattle.editor_recovery.specs.{declared.fault.OpenFault.OpenFault, Files.IsAbove, Ledgers.AreCounted}
use Rattle.editor_state.specs.Studios.{AreJournalNumbers}
use Rattle.editor_core.specs.declared.assembly.Parts.{Parts}
use Rattle.project_journal.specs.declared.fault.JournalFault.TheVariants as journal
use Rattle.editor_recovery.specs.declared.fault.OpenFault.TheVariants as fault

-- what a journal of this form says whose points and records have no fault
pub record IsFoldOf (form : Form) (j : Contents) (f : Folded) : Type 0 where
  pub rate : f.rate ≡ j.rate
  pub block_size : f.block_size ≡ j.block_size
  pub file : f.file ≡ form.file
  pub version : f.version ≡ version_of form
  pub generation : f.generation ≡ j.base.generation
  pub end : f.end ≡ j.end
  pub valid : journal_fault form j ≡ None
  pub early : j.early ≡ None
  pub begins : Begins (log_of j) (base_of j)
  pub leads : LeadIn (version_of form) j.block_size (base_of j) (map body_at j.records) (saved_of f.project)
  -- for each number of a layout there are 9 bytes of the journal
  pub few : 9 * f.project.numbered.next + 16 * j.base.count + form.header_size ≤ 9 + j.end

-- that of the store's journal, or its first fault, which is in its file
abbrev pub FoldsDisk : {D : Type 0} → Ghosts D → D → Form → Result Folded OpenFault → Type 0
FoldsDisk disk store form (Ok f) = (j : Contents) × IsStored disk store form j × IsFoldOf form j f
FoldsDisk disk store form (Err (fault.Damaged file at want have)) =
    HasFault disk store form file (record { at = at; want = want; have = have })
FoldsDisk disk store form (Err fault.NoMemory) = Unit {0}
FoldsDisk disk store form (Err fault.DiskFault) = Unit {0}
FoldsDisk disk store form (Err _) = ⊥

-- why records are not folded, as it is reported
abbrev pub records_fault : JournalFault → OpenFault
records_fault (journal.Damaged file at want have) = fault.Damaged file at want have
records_fault journal.DiskFault = fault.DiskFault
records_fault journal.NoMemory = fault.NoMemory
records_fault _ = fault.Exists

-- whatever the store tells, a project that was folded is valid
pub record IsValidFolded (f : Folded) : Type 0 where
  pub format : IsFormat f.rate f.block_size f.project.numbered.history.history.depth
  pub kept : IsValid f.block_size (saved_of f.project)
  pub commit : f.project.commit ≤ COUNTER_LIMIT
  pub journal : AreJournalNumbers f.file f.version f.generation
  pub end_least : LEAST_END ≤ f.end
  pub end_most : f.end ≤ COUNTER_LIMIT
  -- its layouts have numbers, and the next one is at most the journal's end
  pub numbers : HasLayoutNumbers f.project
  pub layouts : f.project.numbered.next ≤ f.end

-- no file has another size than its block asks, by the sizes that were measured, or the first that has
abbrev pub TestsMeasured : {T : Type 0} → (ℕ → ℕ) → List BlockRef → Result T OpenFault → Type 0
TestsMeasured sizes blocks (Ok _) = first_wrong sizes None blocks ≡ None
TestsMeasured sizes blocks (Err (fault.Damaged file at want have)) =
    (b : BlockRef) × (first_wrong sizes None blocks ≡ Some b) × (file ≡ b.id) × (at ≡ 0) × (want ≡ size_of b.len)
    × (have ≡ sizes b.id)
TestsMeasured sizes blocks (Err fault.NoMemory) = Unit {0}
TestsMeasured sizes blocks (Err _) = ⊥

-- the same by the disk
abbrev pub TestsSizes : {T : Type 0} → Files → List BlockRef → Result T OpenFault → Type 0
TestsSizes files blocks (Ok _) = AllHaveSize files blocks
TestsSizes files blocks (Err (fault.Damaged file at want have)) =
    (b : BlockRef) × IsFirstWrong files blocks b × (file ≡ b.id) × (at ≡ 0) × (want ≡ size_of b.len)
    × (have ≡ file_size files b.id)
TestsSizes files blocks (Err fault.NoMemory) = Unit {0}
TestsSizes files blocks (Err fault.DiskFault) = Unit {0}
TestsSizes files blocks (Err _) = ⊥

-- what a journal, the files and the journal's project amount to
pub record ArePartsOf (files : List ℕ) (f : Folded) (p : Parts) : Type 0 where
  pub rate : p.rate ≡ f.rate
  pub pages : p.pages ≡ PAGES
  pub block_size : p.block_size ≡ f.block_size
  pub history : p.history.history ≡ f.project.numbered.history.history
  pub next_layout : p.next_layout ≡ f.project.numbered.next
  pub counted : IsTally (history_tracks p.history.history) [] p.tally
  pub ledger : AreCounted files (counts_of p.tally.ledger)
  pub next_block : IsAbove files f.project.next_block p.next_block
  pub bound : p.next_block ≤ COUNTER_LIMIT
  pub next_track : p.next_track ≡ f.project.next_track
  pub commit : p.commit_number ≡ f.project.commit
  pub file : p.file ≡ f.file
  pub version : p.version ≡ f.version
  pub generation : p.generation ≡ f.generation
  pub end : p.journal_end ≡ f.end
