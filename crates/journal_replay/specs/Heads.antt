-- What reading the points of a header answers.
use Rattle.std.specs.Prelude.{◌≡◌, ◌⊎◌, ℕ, ◌+◌, ◌*◌, ◌≤◌, None, Some, List, ◌∷◌, ◌++◌, [], length, map, Result, Ok, Err}
use Rattle.std.specs.List.{AllByRecursion}
use Rattle.disk_model.specs.declared.store.Store.{Ghosts}
use Rattle.pcm_base.specs.History.{History}
use Rattle.layout_uses.specs.declared.numbering.Numbered.{Numbered}
use Rattle.project_journal.specs.Reader.{IsHeading, IsLater, IsStored, contents, last_record, reader_form}
use Rattle.project_journal.specs.{declared.fault.Damaged.Damaged, declared.fault.JournalFault.JournalFault}
use Rattle.project_journal.specs.{declared.reader.Reader.Reader, Header.Form, Header.first_failed, Journal.Contents}
use Rattle.project_state.specs.{Numbers.unnumbered_history, declared.track.Track.Track}
use Rattle.record_body.specs.{Saved.point_bytes, PointTests.point_at, PointTests.point_tests, Valid.IsValidTagged}
use Rattle.journal_replay.specs.{Bases.point_before, Bases.points_fault, Faults.journal_fault}
use Rattle.project_journal.specs.declared.fault.JournalFault.TheVariants as journal

-- the tests of the point that a reader met last
abbrev pub last_tests : ℕ → Reader → List Damaged
last_tests m r = point_tests m (point_before r.base (last_record r).0) (last_record r).1

-- it has no fault, and says this
pub record TellsPoint (m : ℕ) (r : Reader) (p : List Track × ℕ) : Type 0 where
  pub none : first_failed (last_tests m r) ≡ None
  pub is : p ≡ point_at (last_record r).1
  pub spelled : point_bytes p ≡ (last_record r).1
  pub valid : IsValidTagged m r.base.next_block r.base.next_track r.base.commit p

abbrev pub ReadsPoint : ℕ → Reader → Result (List Track × ℕ) JournalFault → Type 0
ReadsPoint m r (Ok p) = TellsPoint m r p
ReadsPoint m r (Err (journal.Damaged file at want have)) = (file ≡ r.window.file)
    × (first_failed (last_tests m r) ≡ Some (record { at = at; want = want; have = have }))
ReadsPoint m r (Err journal.DiskFault) = Unit {0}
ReadsPoint m r (Err journal.NoMemory) = Unit {0}
ReadsPoint m r (Err _) = ⊥

-- after some points a reader met one more
abbrev pub MetOne : {D : Type 0} → Ghosts D → D → Reader → List (List ℕ) → Type 0
MetOne disk store r points = IsHeading disk store r (points ++ (last_record r).1 ∷ [])

-- it breaks off, or the point has a fault
abbrev pub FailsPoint : {D : Type 0} → Ghosts D → D → ℕ → Reader → List (List ℕ) → Damaged → Type 0
FailsPoint disk store m r points d = IsStored disk store (reader_form r) (contents r points [] (Some d))
    ⊎ (MetOne disk store r points × (first_failed (last_tests m r) ≡ Some d))

abbrev pub TakesPoint : {D : Type 0} → Ghosts D → D → ℕ → Reader → List (List ℕ)
    → Result (List Track × ℕ) JournalFault → Type 0
TakesPoint disk store m r points (Ok p) = MetOne disk store r points × TellsPoint m r p
TakesPoint disk store m r points (Err (journal.Damaged file at want have)) = (file ≡ r.window.file)
    × FailsPoint disk store m r points (record { at = at; want = want; have = have })
TakesPoint disk store m r points (Err journal.DiskFault) = Unit {0}
TakesPoint disk store m r points (Err journal.NoMemory) = Unit {0}
TakesPoint disk store m r points (Err _) = ⊥

-- where bytes were met, they are of the same journal as before
abbrev pub ReadsOn : {T : Type 0} → (old new : Reader) → Result T JournalFault → Type 0
ReadsOn old new (Ok p) = IsLater old new
ReadsOn old new (Err (journal.Damaged file at want have)) = IsLater old new
ReadsOn old new (Err _) = Unit {0}

-- all points of a header were read, and have no fault
pub record HasPoints {D : Type 0} (disk : Ghosts D) (store : D) (m : ℕ) (r : Reader)
    (h : History (List Track)) : Type 0 where
  pub points : List (List ℕ)
  pub heading : IsHeading disk store r points
  pub all : length points ≡ r.base.count
  pub none : points_fault m r.base (reader_form r).header_size points ≡ None
  pub told : h.points ≡ map point_at points
  pub spelled : points ≡ map point_bytes h.points
  pub valid : AllByRecursion (IsValidTagged m r.base.next_block r.base.next_track r.base.commit) h.points
  pub cursor : h.cursor ≡ r.base.cursor
  pub depth : h.depth ≡ r.depth

-- or one has the first fault of the journal, which is of this form
abbrev pub HasFault : {D : Type 0} → Ghosts D → D → Form → ℕ → Damaged → Type 0
HasFault disk store form file d =
    (j : Contents) × IsStored disk store form j × (file ≡ form.file) × (journal_fault form j ≡ Some d)

-- the points without their numbers
abbrev pub BringsPoints : {D : Type 0} → Ghosts D → D → ℕ → Reader → Result Numbered JournalFault → Type 0
BringsPoints disk store m r (Ok n) = HasPoints disk store m r (unnumbered_history n.history.history)
BringsPoints disk store m r (Err (journal.Damaged file at want have)) =
    HasFault disk store (reader_form r) file (record { at = at; want = want; have = have })
BringsPoints disk store m r (Err journal.DiskFault) = Unit {0}
BringsPoints disk store m r (Err journal.NoMemory) = Unit {0}
BringsPoints disk store m r (Err _) = ⊥

-- For each number of a layout that was drawn so far, of which this is the next, there are 9 bytes of the journal before
-- the reader's place, beside the fields of the header and 16 bytes for each of its points.
abbrev pub DrawsFew : ℕ → Reader → Type 0
DrawsFew next r = 9 * next + 16 * r.base.count + (reader_form r).header_size ≤ 9 + r.at
