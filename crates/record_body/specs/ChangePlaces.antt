-- What stands in the bytes of a body of kind 5, place by place, by the current point.
use Rattle.std.specs.Prelude.{ℕ, zero, suc, ◌+◌, ◌-◌, ◌*◌, ◌≤◌, ◌==◌, nat_le, List, [], ◌∷◌, ◌++◌, length, slice_index}
use Rattle.std.specs.Prelude.{if◌then◌else◌, Option}
use Rattle.project_journal.specs.Fields.{field}
use Rattle.record_body.specs.declared.kinds.TheConstants.{UNDO_KIND, REDO_KIND, PURGE_KIND, DELTA_KIND}
use Rattle.record_body.specs.Changes.{Change, Same, Whole, Tail, changed}
use Rattle.record_body.specs.Places.{blocks_at, clip_count, track_at, track_size, track_count}
use Rattle.record_body.specs.Widths.{blocks_widths, clips_widths, reach}
use Rattle.project_state.specs.{declared.track.Track.Track, Tracks.track_of}

abbrev pub mark_at : ℕ → List ℕ → ℕ
mark_at at bytes = slice_index bytes (at + 8)

-- how many blocks go, and how many come
abbrev pub gone_at : ℕ → List ℕ → ℕ
gone_at at bytes = field (at + 9) 4 bytes

abbrev pub fresh_at : ℕ → List ℕ → ℕ
fresh_at at bytes = field (at + 13) 4 bytes

-- a track that is written out after the mark: all but its id stands one byte further than in a track without a mark
abbrev pub whole_at : ℕ → List ℕ → Track
whole_at at bytes = record (track_at (at + 1) bytes) { id = field at 8 bytes }

abbrev pub change_at : ℕ → List ℕ → Change
change_at at bytes =
    if mark_at at bytes == 0 then Same
    else if mark_at at bytes == 1 then Whole (whole_at at bytes)
    else Tail (gone_at at bytes) (blocks_at (fresh_at at bytes) (at + 17) bytes)

-- how many bytes tell the track at a place
abbrev pub diff_size : ℕ → List ℕ → ℕ
diff_size at bytes =
    if mark_at at bytes == 0 then 9
    else if mark_at at bytes == 1 then 1 + track_size (at + 1) bytes
    else 17 + 12 * fresh_at at bytes

-- the track that is said at a place, where it can be, and several from there on
abbrev pub diff_at : List Track → ℕ → List ℕ → Option Track
diff_at current at bytes = changed (track_of (field at 8 bytes) current) (change_at at bytes)

abbrev pub all_diff_at : List Track → ℕ → ℕ → List ℕ → List (Option Track)
all_diff_at current zero at bytes = []
all_diff_at current (suc count) at bytes =
    diff_at current at bytes ∷ all_diff_at current count (at + diff_size at bytes) bytes

-- ---- how long it is

-- what belongs to a mark; after an unknown one nothing is known, so all that is left is as good
abbrev pub marked_widths : ℕ → List ℕ → List ℕ
marked_widths at bytes =
    if mark_at at bytes == 0 then []
    else if mark_at at bytes == 1 then 4 ∷ 1 ∷ 1 ∷ 4 ∷ clips_widths (clip_count (at + 1) bytes) (at + 1 + 18) bytes
    else if mark_at at bytes == 2 then 4 ∷ 4 ∷ blocks_widths (fresh_at at bytes)
    else (length bytes - (at + 9)) ∷ []

-- id, mark, and what belongs to it
abbrev pub diff_widths : ℕ → List ℕ → List ℕ
diff_widths at bytes = 8 ∷ 1 ∷ marked_widths at bytes

abbrev pub all_diff_widths : ℕ → ℕ → List ℕ → List ℕ
all_diff_widths zero at bytes = []
all_diff_widths (suc count) at bytes = diff_widths at bytes
    ++ (if nat_le (mark_at at bytes) 2 then all_diff_widths count (at + diff_size at bytes) bytes else [])

-- kind, tag, next block, next track, how many tracks, and the tracks
abbrev pub delta_widths : List ℕ → List ℕ
delta_widths bytes = 1 ∷ 8 ∷ 8 ∷ 8 ∷ 4 ∷ all_diff_widths (track_count bytes) 29 bytes

-- the length that the fields ask of the body
abbrev pub asked_delta : List ℕ → ℕ
asked_delta [] = 1
asked_delta (kind ∷ rest) =
    if kind == DELTA_KIND then reach (length (kind ∷ rest)) 0 (delta_widths (kind ∷ rest))
    else if kind == UNDO_KIND then 1
    else if kind == REDO_KIND then 1
    else if kind == PURGE_KIND then 9
    else length (kind ∷ rest)

-- the tracks have their bytes, up to one whose mark is not known
abbrev pub HasDiff : ℕ → List ℕ → Type 0
HasDiff at bytes = (at + 9 ≤ length bytes) × (mark_at at bytes ≤ 2 → at + diff_size at bytes ≤ length bytes)

abbrev pub HaveDiff : ℕ → ℕ → List ℕ → Type 0
HaveDiff zero at bytes = Unit {0}
HaveDiff (suc count) at bytes = HasDiff at bytes
    × (mark_at at bytes ≤ 2 → HaveDiff count (at + diff_size at bytes) bytes)
