-- The body of a record as the studio's journal has it.
use Rattle.std.specs.Prelude.{◌≡◌, ◌⊎◌, ℕ, zero, suc, ◌+◌, List, [], ◌∷◌, length}
use Rattle.project_journal.specs.Journal.{rows_length}
use Rattle.record_body.specs.declared.body.Body.TheVariants.{Edit, Undo, Redo, Purge}
use Rattle.record_body.specs.{declared.body.Body.Body, Batches.with_point, Changes.spelling_in, Spelling.spelling}
use Rattle.record_body.specs.{Saved.current_tracks}
use Rattle.project_state.specs.declared.track.Track.{Track}
use Rattle.editor_state.specs.Core.{Core}

-- its bytes, by the version and the current point: in version 2 an edit is written by this point
abbrev pub bytes_by : ℕ → List Track → Body → List ℕ
bytes_by version current (Edit tag next_block next_track point) =
    spelling_in version current (Edit tag next_block next_track point)
bytes_by version current Undo = spelling Undo
bytes_by version current Redo = spelling Redo
bytes_by version current (Purge n) = spelling (Purge n)

abbrev pub body_bytes : {D : Type 0} → Core D → Body → List ℕ
body_bytes s body = bytes_by s.version (current_tracks s.history) body

-- What a commit writes: a record with this body, and before it this many that say the current point with the same tag
-- and ids.
pub record Writing : Type 0 where
  pub more : ℕ
  pub body : Body

abbrev pub writing : ℕ → Body → Writing
writing more body = record { more = more; body = body }

-- one record
abbrev pub single : Body → Writing
single body = writing 0 body

-- the bodies of these records
abbrev pub bodies_by : ℕ → List Track → ℕ → Body → List (List ℕ)
bodies_by version current zero body = bytes_by version current body ∷ []
bodies_by version current (suc more) body =
    bytes_by version current (with_point current body) ∷ bodies_by version current more body

abbrev pub all_bytes : {D : Type 0} → Core D → Writing → List (List ℕ)
all_bytes s w = bodies_by s.version (current_tracks s.history) w.more w.body

-- how many bytes the records have, without the gate of the first and the length of its body
abbrev pub all_len : {D : Type 0} → Core D → Writing → ℕ
all_len s w = rows_length (all_bytes s w)

-- and how many written out whole, as in version 1
abbrev pub whole_by : List Track → ℕ → Body → ℕ
whole_by current zero body = length (spelling body)
whole_by current (suc more) body = length (spelling (with_point current body)) + (5 + whole_by current more body)

abbrev pub whole_len : {D : Type 0} → Core D → Writing → ℕ
whole_len s w = whole_by (current_tracks s.history) w.more w.body

-- one of the two lengths for which a commit asks room: that of its records' bytes, and that of the records written out
-- whole
abbrev pub IsLength : {D : Type 0} → Core D → Writing → ℕ → Type 0
IsLength s w n = (n ≡ whole_len s w) ⊎ (n ≡ all_len s w)
