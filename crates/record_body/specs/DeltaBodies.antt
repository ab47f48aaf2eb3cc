-- What the bytes of a body say, by the current point.
use Rattle.std.specs.Prelude.{◌≡◌, ℕ, List, map, Some, slice_index}
use Rattle.project_journal.specs.Fields.{field}
use Rattle.record_body.specs.declared.body.Body.TheVariants.{Edit, Undo, Redo, Purge}
use Rattle.record_body.specs.declared.kinds.TheConstants.{UNDO_KIND, REDO_KIND, PURGE_KIND, DELTA_KIND}
use Rattle.record_body.specs.{declared.body.Body.Body, ChangePlaces.all_diff_at, Places.track_count}
use Rattle.project_state.specs.declared.track.Track.{Track}

-- an edit of kind 5
abbrev pub SaysEdit : List Track → List ℕ → Body → Type 0
SaysEdit current bytes (Edit tag next_block next_track point) =
    (tag ≡ field 1 8 bytes) × (next_block ≡ field 9 8 bytes) × (next_track ≡ field 17 8 bytes)
    × (map Some point ≡ all_diff_at current (track_count bytes) 29 bytes)
SaysEdit current bytes Undo = ⊥
SaysEdit current bytes Redo = ⊥
SaysEdit current bytes (Purge n) = ⊥

-- by their kind
abbrev pub SaysBody : List Track → List ℕ → Body → Type 0
SaysBody current bytes (Edit tag next_block next_track point) =
    (slice_index bytes 0 ≡ DELTA_KIND) × SaysEdit current bytes (Edit tag next_block next_track point)
SaysBody current bytes Undo = slice_index bytes 0 ≡ UNDO_KIND
SaysBody current bytes Redo = slice_index bytes 0 ≡ REDO_KIND
SaysBody current bytes (Purge n) = (slice_index bytes 0 ≡ PURGE_KIND) × (n ≡ field 1 8 bytes)
