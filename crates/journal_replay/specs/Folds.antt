-- What a fold of records answers.
use Rattle.std.specs.Prelude.{◌≡◌, ℕ, ◌+◌, ◌≤◌, Some, None, List, [], length, map, Result, Ok, Err}
use Rattle.disk_model.specs.declared.store.Store.{Ghosts}
use Rattle.project_journal.specs.Journal.{Contents, body_at, log_of}
use Rattle.project_journal.specs.Reader.{IsReading, IsStored, contents, reader_form}
use Rattle.project_journal.specs.{declared.fault.JournalFault.JournalFault, declared.reader.Reader.Reader}
use Rattle.project_journal.specs.{Header.first_failed}
use Rattle.project_state.specs.Numbers.{unnumbered_history}
use Rattle.layout_uses.specs.Drawing.{IsNumbered}
use Rattle.record_body.specs.Saved.{Saved, Begins, after_body, IsNextIn, LeadIn, version_of}
use Rattle.record_body.specs.{declared.body.Body.Body, SavedValid.IsValidSaved, Lengths.body_tracks}
use Rattle.record_body.specs.{Numbers.unnumbered_body}
use Rattle.journal_replay.specs.{declared.project.Project.Project, Bases.base_by, Bases.base_of, Bases.points_fault}
use Rattle.journal_replay.specs.{Faults.record_tests, Faults.journal_fault, Faults.says, Heads.DrawsFew, Heads.HasFault}
use Rattle.project_journal.specs.declared.fault.JournalFault.TheVariants as journal

-- without the numbers of its layouts, as records and headers say it
abbrev pub saved_of : Project → Saved
saved_of p = record {
  history = unnumbered_history p.numbered.history.history;
  next_block = p.next_block;
  next_track = p.next_track;
  commit =
      p.commit;
}

-- the layouts of its points have numbers
abbrev pub HasLayoutNumbers : Project → Type 0
HasLayoutNumbers p = IsNumbered p.numbered.history.history p.numbered.next

-- What a body makes of a project. Each track that it says has one new number at most.
pub record IsAfter (old new : Project) (body : Body) : Type 0 where
  pub kept : saved_of new ≡ after_body (saved_of old) (unnumbered_body body)
  pub numbers : HasLayoutNumbers new
  pub most : new.numbered.next ≤ old.numbered.next + length (body_tracks body)

-- it is as records may leave it
abbrev pub IsValid : ℕ → Saved → Type 0
IsValid m k = IsValidSaved m k.history.depth k.commit k

-- a project after a record that has no fault, or the record's first fault, which is in the journal's file
abbrev pub FoldsOne : {T : Type 0} → ℕ → ℕ → Saved → ℕ → ℕ × List ℕ → Saved → Result T JournalFault → Type 0
FoldsOne version m now in_file r next (Ok x) =
    (first_failed (record_tests version m now r) ≡ None) × IsNextIn version m now r.1 (says version now r.1)
    × (next ≡ after_body now (says version now r.1))
FoldsOne version m now in_file r next (Err (journal.Damaged file at want have)) =
    (file ≡ in_file) × (first_failed (record_tests version m now r) ≡ Some (record { at = at; want = want; have = have }))
FoldsOne version m now in_file r next (Err journal.DiskFault) = Unit {0}
FoldsOne version m now in_file r next (Err journal.NoMemory) = Unit {0}
FoldsOne version m now in_file r next (Err _) = ⊥

-- The project before the first record, of a reader that has read all points.
pub record IsBrought {D : Type 0} (disk : Ghosts D) (store : D) (m : ℕ) (r : Reader) (now : Saved) : Type 0 where
  pub points : List (List ℕ)
  pub reading : IsReading disk store r points []
  pub none : points_fault m r.base (reader_form r).header_size points ≡ None
  pub is : now ≡ base_by points r.depth r.base
  pub begins : Begins (log_of (contents r points [] None)) now

abbrev pub Brings : {D : Type 0} → Ghosts D → D → ℕ → Reader → Result Project JournalFault → Type 0
Brings disk store m r (Ok p) = IsBrought disk store m r (saved_of p)
Brings disk store m r (Err (journal.Damaged file at want have)) =
    HasFault disk store (reader_form r) file (record { at = at; want = want; have = have })
Brings disk store m r (Err journal.DiskFault) = Unit {0}
Brings disk store m r (Err journal.NoMemory) = Unit {0}
Brings disk store m r (Err _) = ⊥

-- The project to which a journal's records lead from the one that its header brings, where none of its points and
-- records has a fault and the file does not end too early. The layouts of its points have numbers.
pub record Leads {D : Type 0} (disk : Ghosts D) (store : D) (reader : Reader) (p : Project) : Type 0 where
  pub journal : Contents
  pub stored : IsStored disk store (reader_form reader) journal
  pub rate : reader.rate ≡ journal.rate
  pub block_size : reader.block_size ≡ journal.block_size
  pub base : reader.base ≡ journal.base
  pub end : reader.at ≡ journal.end
  pub fault : journal_fault (reader_form reader) journal ≡ None
  pub early : journal.early ≡ None
  pub begins : Begins (log_of journal) (base_of journal)
  pub leads : LeadIn (version_of (reader_form reader)) journal.block_size (base_of journal)
      (map body_at journal.records) (saved_of p)
  pub numbers : HasLayoutNumbers p
  pub few : DrawsFew p.numbered.next reader

-- That of a store's journal, or its first fault, which is in the journal's file. A store that does not tell its bytes
-- may have given any journal.
abbrev pub FoldsStored : {D : Type 0} → Ghosts D → D → Reader → Result Project JournalFault → Type 0
FoldsStored disk store reader (Ok p) = Leads disk store reader p
FoldsStored disk store reader (Err (journal.Damaged file at want have)) =
    HasFault disk store (reader_form reader) file (record { at = at; want = want; have = have })
FoldsStored disk store reader (Err journal.DiskFault) = Unit {0}
FoldsStored disk store reader (Err journal.NoMemory) = Unit {0}
FoldsStored disk store reader (Err _) = ⊥
