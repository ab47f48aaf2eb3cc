-- The first fault of a journal's records.
use Rattle.std.specs.Prelude.{◌≡◌, ℕ, zero, suc, ◌-◌, ◌==◌, min, max, if◌then◌else◌, Option, None, Some, List, [], ◌∷◌}
use Rattle.std.specs.Prelude.{◌++◌, length, slice_index}
use Rattle.std.specs.Option.{option_or}
use Rattle.pcm_base.specs.History.{History}
use Rattle.project_journal.specs.Header.{Form, first_failed}
use Rattle.project_journal.specs.{declared.fault.Damaged.Damaged, Fields.field, Journal.Contents}
use Rattle.project_state.specs.declared.track.Track.{Track}
use Rattle.record_body.specs.declared.body.Body.TheVariants.{Edit, Undo, Redo, Purge}
use Rattle.record_body.specs.declared.kinds.TheConstants.{UNDO_KIND, REDO_KIND, DELTA_KIND}
use Rattle.record_body.specs.FirstFault.{body_tests, least, place}
use Rattle.record_body.specs.Saved.{Saved, after_body, current_tracks, version_of}
use Rattle.record_body.specs.Places.{body_at, track_count}
use Rattle.record_body.specs.{declared.body.Body.Body, declared.limits.Before.Before, ChangePlaces.all_diff_at}
use Rattle.record_body.specs.{ChangeTests.delta_tests, DeltaBodies.SaysBody, Valid.IsValidBody, Spelling.spelling}
use Rattle.journal_replay.specs.Bases.{base_of, points_fault}

-- the tracks that can be known
abbrev pub known : List (Option Track) → List Track
known [] = []
known (None ∷ ts) = known ts
known (Some t ∷ ts) = t ∷ known ts

-- what a body's bytes say by the current point
abbrev pub diff_body : List Track → List ℕ → Body
diff_body current bytes =
    if slice_index bytes 0 == DELTA_KIND then Edit (field 1 8 bytes) (field 9 8 bytes) (field 17 8 bytes)
    (known (all_diff_at current (track_count bytes) 29 bytes))
    else if slice_index bytes 0 == UNDO_KIND then Undo
    else if slice_index bytes 0 == REDO_KIND then Redo
    else Purge (field 1 8 bytes)

-- in a journal of this version, 1 or a later one
abbrev pub said : ℕ → List Track → List ℕ → Body
said zero current bytes = body_at bytes
said (suc zero) current bytes = body_at bytes
said (suc (suc version)) current bytes = diff_body current bytes

-- what a body's bytes say after a project
unfoldable pub says : ℕ → Saved → List ℕ → Body
says version k bytes = said version (current_tracks k.history) bytes

-- the tests of a body's fields in a journal of this version
abbrev pub field_tests : ℕ → ℕ → Before → List Track → List ℕ → List Damaged
field_tests zero m b current bytes = body_tests m b bytes
field_tests (suc zero) m b current bytes = body_tests m b bytes
field_tests (suc (suc version)) m b current bytes = delta_tests m b current bytes

-- a valid body that these bytes say
abbrev pub IsSaid : ℕ → ℕ → Before → List Track → List ℕ → Body → Type 0
IsSaid zero m b current bytes body = (spelling body ≡ bytes) × IsValidBody m b body
IsSaid (suc zero) m b current bytes body = (spelling body ≡ bytes) × IsValidBody m b body
IsSaid (suc (suc version)) m b current bytes body = SaysBody current bytes body × IsValidBody m b body

-- what comes before a record whose body stands at this place
abbrev pub before_at : Saved → ℕ → Before
before_at k at = record { at = at; next_block = k.next_block; next_track = k.next_track; commits = k.commit }

-- how many points stand after the current one
abbrev pub behind : {P : Type 0} → History P → ℕ
behind h = length h.points - 1 - h.cursor

-- An undo and a purge ask for a point before the current one, a redo for one after it, which is reported at the kind. A
-- purge drops one at least, and at most those before the current one, which is reported at its number.
abbrev pub history_tests : History (List Track) → ℕ → Body → List Damaged
history_tests h at (Edit tag next_block next_track point) = []
history_tests h at Undo = least at 1 h.cursor ∷ []
history_tests h at Redo = least at 1 (behind h) ∷ []
history_tests h at (Purge n) =
    least at 1 h.cursor ∷ record { at = place at 1; want = max 1 (min n h.cursor); have = n } ∷ []

-- The tests of a record at a place, with the bytes of its body: those of its fields, and what the history asks.
unfoldable pub record_tests : ℕ → ℕ → Saved → ℕ × List ℕ → List Damaged
record_tests version m k r = field_tests version m (before_at k r.0) (current_tracks k.history) r.1
    ++ history_tests k.history r.0 (says version k r.1)

-- The first fault of records that follow a project in a journal of this version: the first test that fails of the first
-- record that has one.
abbrev pub first_fault_in : ℕ → ℕ → Saved → List (ℕ × List ℕ) → Option Damaged
first_fault_in version m k [] = None
first_fault_in version m k (r ∷ rs) = option_or (first_failed (record_tests version m k r))
    (first_fault_in version m (after_body k (says version k r.1)) rs)

-- The first fault of a journal the fields of whose header are valid: its points come before its records, and an early
-- end of the file stands after all of them.
abbrev pub journal_fault : Form → Contents → Option Damaged
journal_fault form j = option_or (points_fault j.block_size j.base form.header_size j.points)
    (option_or (first_fault_in (version_of form) j.block_size (base_of j) j.records) j.early)

-- what is reported of a purge that is out of its range
abbrev pub out_of_range : (at n most : ℕ) → Damaged
out_of_range at n most =
    if most == 0 then record { at = at; want = 1; have = 0 } else record {
      at = place at 1;
      want =
          max 1 (min n most);
      have = n;
    }
