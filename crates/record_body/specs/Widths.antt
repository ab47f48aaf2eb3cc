-- How long a body is by its fields.
use Rattle.std.specs.Prelude.{◌≡◌, ℕ, zero, suc, ◌+◌, ◌≤◌, ◌<◌, ◌==◌, nat_le, List, [], ◌∷◌, ◌++◌, length, Result, Ok}
use Rattle.std.specs.Prelude.{Err, if◌then◌else◌}
use Rattle.record_body.specs.declared.kinds.TheConstants.{EDIT_KIND, UNDO_KIND, REDO_KIND, PURGE_KIND}
use Rattle.record_body.specs.declared.measuring.PastEnd.{PastEnd}
use Rattle.record_body.specs.Places.{block_count, clip_size, clip_count, track_size, track_count}

-- id and length of each block
abbrev pub blocks_widths : ℕ → List ℕ
blocks_widths zero = []
blocks_widths (suc count) = 8 ∷ 4 ∷ blocks_widths count

-- start, how many blocks, and the blocks
abbrev pub clip_widths : ℕ → List ℕ → List ℕ
clip_widths at bytes = 8 ∷ 4 ∷ blocks_widths (block_count at bytes)

abbrev pub clips_widths : ℕ → ℕ → List ℕ → List ℕ
clips_widths zero at bytes = []
clips_widths (suc count) at bytes = clip_widths at bytes ++ clips_widths count (at + clip_size at bytes) bytes

-- id, gain, side, mute, how many clips, and the clips
abbrev pub track_widths : ℕ → List ℕ → List ℕ
track_widths at bytes = 8 ∷ 4 ∷ 1 ∷ 1 ∷ 4 ∷ clips_widths (clip_count at bytes) (at + 18) bytes

abbrev pub tracks_widths : ℕ → ℕ → List ℕ → List ℕ
tracks_widths zero at bytes = []
tracks_widths (suc count) at bytes = track_widths at bytes ++ tracks_widths count (at + track_size at bytes) bytes

-- kind, tag, next block, next track, how many tracks, and the tracks
abbrev pub edit_widths : List ℕ → List ℕ
edit_widths bytes = 1 ∷ 8 ∷ 8 ∷ 8 ∷ 4 ∷ tracks_widths (track_count bytes) 29 bytes

-- Where fields of these widths end that stand one after another from a place on, in a body of this many bytes: the end
-- of the first that does not fit, else of the last. A count that is not there reads as 0, but its own field comes
-- first.
abbrev pub reach : ℕ → ℕ → List ℕ → ℕ
reach len at [] = at
reach len at (w ∷ ws) = if nat_le (at + w) len then reach len (at + w) ws else at + w

-- The length that the fields ask of the body. Those of an unknown kind are not known, so any is as good.
abbrev pub asked_length : List ℕ → ℕ
asked_length [] = 1
asked_length (kind ∷ rest) =
    if kind == EDIT_KIND then reach (length (kind ∷ rest)) 0 (edit_widths (kind ∷ rest))
    else if kind == UNDO_KIND then 1
    else if kind == REDO_KIND then 1
    else if kind == PURGE_KIND then 9
    else length (kind ∷ rest)

-- how many bytes some fields have
abbrev pub total_width : List ℕ → ℕ
total_width [] = 0
total_width (w ∷ ws) = w + total_width ws

-- what is found from a place on: where the fields end, if all of them fit, else the end of the first that does not
abbrev pub Reaches : ℕ → ℕ → List ℕ → Result ℕ PastEnd → Type 0
Reaches len at ws (Ok end) = (end ≡ at + total_width ws) × (end ≤ len)
Reaches len at ws (Err past) = (past.end ≡ reach len at ws) × (len < past.end)
