-- What is proved of the definitions themselves.
use Rattle.std.specs.Prelude.{◌≡◌, ◌+◌, ◌-◌, ◌<◌, ◌≤◌, ◌^◌, ℕ, List, length, Option, Some, None, slice_index}
use Rattle.std.specs.List.{AllByRecursion}
use Rattle.pcm_base.specs.{declared.block.BlockRef.BlockRef, declared.limits.TheConstants.COUNTER_LIMIT}
use Rattle.project_state.specs.{declared.track.Track.Track, Numbers.unnumbered, Tracks.track_of, Meaning.history_blocks}
use Rattle.project_journal.specs.{Header.first_failed, Header.Form, Header.IsForm, Journal.Log, Packing.HasEither}
use Rattle.block_sequence.specs.Fronts.{common}
use Rattle.record_body.specs.Changes.{Same, change_of, changed, delta_spelling, last_blocks, tailed}
use Rattle.record_body.specs.Saved.{Saved, Opened, Keeps, Begins, LeadIn, IsPacked, MayFollow, IsNextDiff, opened}
use Rattle.record_body.specs.Saved.{before_of, current_tracks, version_of}
use Rattle.record_body.specs.{declared.body.Body.Body, declared.body.Body.TheVariants.Edit}
use Rattle.record_body.specs.{declared.limits.Before.Before, Batches.after_bodies, Batches.bodies_in}
use Rattle.record_body.specs.{ChangeTests.delta_tests, DeltaBodies.SaysBody, Valid.IsValidBody, Valid.IsValidPoint}
use Rattle.disk_model.specs.Disk.{Files}
use Rattle.sample_block.specs.Sources.{IsWhole}

-- a disk keeps one project at most, whichever file and version its journal is in
abbrev pub KeepsOne : Type 0
KeepsOne = (files : Files) (a b : Opened) → Keeps files a → Keeps files b → a ≡ b

-- a journal and the one into which it was put, as a header alone, are one project
abbrev pub PackedIsSaved : Type 0
PackedIsSaved =
    (form : Form) (log packed : Log) (base kept : Saved) (c : Files) → IsForm form → form.file ≤ 1 → Begins log base
    → LeadIn (version_of form) log.block_size base log.bodies kept → IsPacked log kept packed
    → AllByRecursion (IsWhole c) (history_blocks kept.history) → HasEither form log packed c
    → Keeps c (opened log kept c)

-- a track of the current point has this id
abbrev pub HasId : ℕ → Option Track → Type 0
HasId id None = Unit {0}
HasId id (Some old) = old.id ≡ id

-- what the writer takes for a track says that track, but for its layout's number
abbrev pub ChoiceTellsTheTrack : Type 0
ChoiceTellsTheTrack = (old : Option Track) (t : Track) → HasId t.id old → changed old (change_of old t) ≡ Some
    (unnumbered t)

-- a track that stays is written as the same
abbrev pub SameStays : Type 0
SameStays = (t : Track) → change_of (Some t) t ≡ Same

-- and whoever says one by the end of its last clip lets at least as many blocks go as the writer
abbrev pub FewestGo : Type 0
FewestGo =
    (old t : Track) (gone : ℕ) (blocks : List BlockRef) → 0 < length old.layout
    → gone ≤ length (last_blocks old.layout) → tailed gone blocks old ≡ t
    → length (last_blocks old.layout) - common (last_blocks old.layout) (last_blocks t.layout) ≤ gone

-- the last clip has fewer than 2^32 blocks
abbrev pub EndsShort : Option Track → Type 0
EndsShort None = Unit {0}
EndsShort (Some old) = length (last_blocks old.layout) < 2 ^ 32

-- the last clip of each track has fewer than 2^32 blocks
abbrev pub HasShortEnds : List Track → Type 0
HasShortEnds current = (id : ℕ) → EndsShort (track_of id current)

-- A valid body that is written by the current point passes the tests where the record may follow, and its bytes say
-- that body.
abbrev pub WrittenIsRead : Type 0
WrittenIsRead =
    (m : ℕ) (before : Before) (current : List Track) (body : Body) → 4 ≤ m → m < 2 ^ 32
    → before.commits < COUNTER_LIMIT → HasShortEnds current → IsValidBody m before body
    → (first_failed (delta_tests m before current (delta_spelling current body)) ≡ None)
    × SaysBody current (delta_spelling current body) body

-- What bytes say by a valid point may come next, where they pass their tests and the history has room for it.
abbrev pub PassedIsNext : Type 0
PassedIsNext =
    (m : ℕ) (k : Saved) (bytes : List ℕ) (body : Body) → ((i : ℕ) → slice_index bytes i < 256)
    → IsValidPoint m k.next_block k.next_track (current_tracks k.history)
    → first_failed (delta_tests m (before_of k) (current_tracks k.history) bytes) ≡ None
    → SaysBody (current_tracks k.history) bytes body → MayFollow k.history body → IsNextDiff m k bytes body

-- Records that come together, all but the last of which say the current point under the last one's tag, lead to the
-- last one's point, and are as many commits.
abbrev pub BatchesLead : Type 0
BatchesLead =
    (version m more : ℕ) (k : Saved) (tag next_block next_track : ℕ) (point : List Track) → 1 ≤ version → version ≤ 3
    → 4 ≤ m → m < 2 ^ 32 → 1 ≤ k.history.depth → 1 ≤ tag → k.commit + more < COUNTER_LIMIT
    → HasShortEnds (current_tracks k.history)
    → IsValidBody m (before_of k) (Edit tag next_block next_track (current_tracks k.history))
    → IsValidBody m (before_of k) (Edit tag next_block next_track point)
    → LeadIn version m k (bodies_in version (current_tracks k.history) more (Edit tag next_block next_track point))
    (after_bodies k more (Edit tag next_block next_track point))
