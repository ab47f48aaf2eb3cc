-- What the records of a journal lead to, one after another, and the project that a disk keeps.
use Rattle.std.specs.Prelude.{◌≡◌, ℕ, zero, suc, ◌+◌, ◌-◌, ◌≤◌, ◌<◌, List, [], ◌∷◌, ◌++◌, length, map, drop, None}
use Rattle.std.specs.List.{AllByRecursion}
use Rattle.pcm_base.specs.History.{History, history_of_one, recorded, at_cursor, purged}
use Rattle.pcm_base.specs.{declared.limits.TheConstants.FIRST_BLOCK, Cells.Project}
use Rattle.disk_model.specs.Disk.{Files}
use Rattle.sample_block.specs.Sources.{sources_of, IsWhole}
use Rattle.byteorder.specs.Endian.{little_bytes}
use Rattle.project_journal.specs.{Header.Form, Header.IsForm, Header.first_failed, Journal.Log, Journal.HasLog}
use Rattle.project_state.specs.Meaning.{history_blocks, meant_history}
use Rattle.project_state.specs.{declared.track.Track.Track, Numbers.AreUnnumbered}
use Rattle.record_body.specs.declared.body.Body.TheVariants.{Edit, Undo, Redo, Purge}
use Rattle.record_body.specs.{declared.body.Body.Body, declared.limits.Before.Before, ChangeTests.delta_tests}
use Rattle.record_body.specs.{DeltaBodies.SaysBody, Valid.IsValidBody, Valid.IsValidTagged, Spelling.project_bytes}
use Rattle.record_body.specs.{Spelling.spelling}

-- points as tracks of blocks, and the numbers that never fall
pub record Saved : Type 0 where
  pub history : History (List Track)
  pub next_block : ℕ
  pub next_track : ℕ
  pub commit : ℕ

-- a project without commits, which keeps this many points
abbrev pub new_project : ℕ → Saved
new_project depth = record { history = history_of_one [] 0 depth; next_block = FIRST_BLOCK; next_track = 1; commit = 0 }

-- what a record makes of it
abbrev pub after_body : Saved → Body → Saved
after_body k (Edit tag next_block next_track point) = record {
  history = recorded k.history point tag;
  next_block = next_block;
  next_track = next_track;
  commit = k.commit + 1;
}
after_body k Undo = record k { history = at_cursor k.history (k.history.cursor - 1); commit = k.commit + 1 }
after_body k Redo = record k { history = at_cursor k.history (k.history.cursor + 1); commit = k.commit + 1 }
after_body k (Purge n) = record k { history = purged k.history n; commit = k.commit + 1 }

-- what the history asks of a record
abbrev pub MayFollow : History (List Track) → Body → Type 0
MayFollow h (Edit tag next_block next_track point) = Unit {0}
MayFollow h Undo = 0 < h.cursor
MayFollow h Redo = h.cursor + 1 < length h.points
MayFollow h (Purge n) = (1 ≤ n) × (n ≤ h.cursor)

abbrev pub before_of : Saved → Before
before_of k = record { at = 0; next_block = k.next_block; next_track = k.next_track; commits = k.commit }

-- a record that may come next, at block size m: its bytes and what they say
pub record IsNext (m : ℕ) (k : Saved) (bytes : List ℕ) (body : Body) : Type 0 where
  pub spelled : bytes ≡ spelling body
  pub valid : IsValidBody m (before_of k) body
  pub follows : MayFollow k.history body

-- the tracks of the first of some points, and those of the current point
abbrev pub first_tracks : List (List Track × ℕ) → List Track
first_tracks [] = []
first_tracks (p ∷ ps) = p.0

abbrev pub current_tracks : History (List Track) → List Track
current_tracks h = first_tracks (drop h.cursor h.points)

-- a record that may come next and tells an edit by the current point: its bytes pass their tests, and say this
pub record IsNextDiff (m : ℕ) (k : Saved) (bytes : List ℕ) (body : Body) : Type 0 where
  pub tests : first_failed (delta_tests m (before_of k) (current_tracks k.history) bytes) ≡ None
  pub says : SaysBody (current_tracks k.history) bytes body
  pub valid : IsValidBody m (before_of k) body
  pub follows : MayFollow k.history body

-- one that may come next in a journal of this version: 1, or one whose edits are written by the current point
abbrev pub IsNextIn : ℕ → ℕ → Saved → List ℕ → Body → Type 0
IsNextIn zero = IsNext
IsNextIn (suc zero) = IsNext
IsNextIn (suc (suc version)) = IsNextDiff

-- from one project the records lead to another, each by what may come next
abbrev pub LeadBy : (Saved → List ℕ → Body → Type 0) → Saved → List (List ℕ) → Saved → Type 0
LeadBy next k [] end = end ≡ k
LeadBy next k (bytes ∷ more) end = (body : Body) × next k bytes body × LeadBy next (after_body k body) more end

-- in a journal of this version
abbrev pub LeadIn : ℕ → ℕ → Saved → List (List ℕ) → Saved → Type 0
LeadIn version m = LeadBy (IsNextIn version m)

-- what opening a disk finds
pub record Opened : Type 0 where
  pub rate : ℕ
  pub block_size : ℕ
  pub history : History Project
  pub next_track : ℕ
  pub commit : ℕ

-- what a project of blocks is, by the samples of these blocks
abbrev pub opened : Log → Saved → Files → Opened
opened log k files = record {
  rate = log.rate;
  block_size = log.block_size;
  history = meant_history (sources_of files) k.history;
  next_track = k.next_track;
  commit = k.commit;
}

-- a point in a header: its tag, and its tracks
abbrev pub point_bytes : List Track × ℕ → List ℕ
point_bytes p = little_bytes 8 p.1 ++ project_bytes p.0

-- the project that a header of version 2 or 3 brings
pub record IsHeaderBase (log : Log) (base : Saved) : Type 0 where
  pub points : log.points ≡ map point_bytes base.history.points
  pub cursor : base.history.cursor ≡ log.base.cursor
  pub depth : base.history.depth ≡ log.depth
  pub next_block : base.next_block ≡ log.base.next_block
  pub next_track : base.next_track ≡ log.base.next_track
  pub commit : base.commit ≡ log.base.commit
  pub valid : AllByRecursion (IsValidTagged log.block_size base.next_block base.next_track base.commit)
      base.history.points
  pub unnumbered : AllByRecursion (λ (p : List Track × ℕ). AreUnnumbered p.0) base.history.points

-- the project before a journal's first record: one without commits where its header has no points
abbrev pub BeginsBy : List (List ℕ) → Log → Saved → Type 0
BeginsBy [] log base = base ≡ new_project log.depth
BeginsBy (point ∷ points) log base = IsHeaderBase log base

abbrev pub Begins : Log → Saved → Type 0
Begins log base = BeginsBy log.points log base

-- the version of a form
abbrev pub version_of : Form → ℕ
version_of form = form.version

-- The disk keeps this project in a journal of this form: it begins with a project, from which its records lead to this
-- one, and each block that a point names is whole.
pub record KeepsIn (form : Form) (files : Files) (found : Opened) : Type 0 where
  pub log : Log
  pub base : Saved
  pub kept : Saved
  pub there : HasLog form log files
  pub begins : Begins log base
  pub told : LeadIn (version_of form) log.block_size base log.bodies kept
  pub whole : AllByRecursion (IsWhole files) (history_blocks kept.history)
  pub is : found ≡ opened log kept files

-- in file 0 or 1, and in any version
pub record Keeps (files : Files) (found : Opened) : Type 0 where
  pub form : Form
  pub known : IsForm form
  pub few : form.file ≤ 1
  pub keeps : KeepsIn form files found

-- a journal without records that begins with the project to which this one leads
pub record IsPacked (log : Log) (kept : Saved) (packed : Log) : Type 0 where
  pub rate : packed.rate ≡ log.rate
  pub block_size : packed.block_size ≡ log.block_size
  pub none : packed.bodies ≡ []
  pub begins : Begins packed kept
