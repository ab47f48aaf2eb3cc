-- What stands in the bytes of a body, place by place. A place is counted from the body's first byte.
use Rattle.std.specs.Prelude.{ℕ, zero, suc, ◌+◌, ◌*◌, ◌==◌, nat_lt, List, [], ◌∷◌, slice_index, if◌then◌else◌}
use Rattle.pcm_base.specs.{declared.block.BlockRef.BlockRef, declared.sound.Side.Side}
use Rattle.clip_track.specs.declared.clips.Clip.{Clip}
use Rattle.project_journal.specs.Fields.{field}
use Rattle.project_state.specs.declared.track.Track.{Track}
use Rattle.record_body.specs.declared.body.Body.{Body}
use Rattle.record_body.specs.declared.body.Body.TheVariants.{Edit, Undo, Redo, Purge}
use Rattle.record_body.specs.declared.kinds.TheConstants.{EDIT_KIND, UNDO_KIND, REDO_KIND}
use Rattle.pcm_base.specs.declared.sound.Side.TheVariants as side

abbrev pub block_at : ℕ → List ℕ → BlockRef
block_at at bytes = record { id = field at 8 bytes; len = field (at + 8) 4 bytes }

-- this many blocks, from a place on
abbrev pub blocks_at : ℕ → ℕ → List ℕ → List BlockRef
blocks_at zero at bytes = []
blocks_at (suc count) at bytes = block_at at bytes ∷ blocks_at count (at + 12) bytes

-- how many samples they have
abbrev pub lens_at : ℕ → ℕ → List ℕ → ℕ
lens_at zero at bytes = 0
lens_at (suc count) at bytes = field (at + 8) 4 bytes + lens_at count (at + 12) bytes

-- how many blocks the clip at a place has
abbrev pub block_count : ℕ → List ℕ → ℕ
block_count at bytes = field (at + 8) 4 bytes

abbrev pub clip_at : ℕ → List ℕ → Clip
clip_at at bytes = record { start = field at 8 bytes; blocks = blocks_at (block_count at bytes) (at + 12) bytes }

-- where the clip ends, in cells
abbrev pub clip_end_at : ℕ → List ℕ → ℕ
clip_end_at at bytes = field at 8 bytes + lens_at (block_count at bytes) (at + 12) bytes

-- how many bytes it has
abbrev pub clip_size : ℕ → List ℕ → ℕ
clip_size at bytes = 12 + 12 * block_count at bytes

abbrev pub clips_at : ℕ → ℕ → List ℕ → List Clip
clips_at zero at bytes = []
clips_at (suc count) at bytes = clip_at at bytes ∷ clips_at count (at + clip_size at bytes) bytes

abbrev pub clips_size : ℕ → ℕ → List ℕ → ℕ
clips_size zero at bytes = 0
clips_size (suc count) at bytes = clip_size at bytes + clips_size count (at + clip_size at bytes) bytes

abbrev pub side_of : ℕ → Side
side_of n = if n == 0 then side.Both else if n == 1 then side.Left else side.Right

-- how many clips the track at a place has
abbrev pub clip_count : ℕ → List ℕ → ℕ
clip_count at bytes = field (at + 14) 4 bytes

abbrev pub track_at : ℕ → List ℕ → Track
track_at at bytes = record {
  id = field at 8 bytes;
  gain = field (at + 8) 4 bytes;
  side = side_of (slice_index bytes (at + 12));
  mute = nat_lt 0 (slice_index bytes (at + 13));
  number = 0;
  layout = clips_at (clip_count at bytes) (at + 18) bytes;
}

-- how many bytes it has
abbrev pub track_size : ℕ → List ℕ → ℕ
track_size at bytes = 18 + clips_size (clip_count at bytes) (at + 18) bytes

abbrev pub tracks_at : ℕ → ℕ → List ℕ → List Track
tracks_at zero at bytes = []
tracks_at (suc count) at bytes = track_at at bytes ∷ tracks_at count (at + track_size at bytes) bytes

abbrev pub tracks_size : ℕ → ℕ → List ℕ → ℕ
tracks_size zero at bytes = 0
tracks_size (suc count) at bytes = track_size at bytes + tracks_size count (at + track_size at bytes) bytes

-- how many tracks an edit has
abbrev pub track_count : List ℕ → ℕ
track_count bytes = field 25 4 bytes

abbrev pub edit_at : List ℕ → Body
edit_at bytes = Edit (field 1 8 bytes) (field 9 8 bytes) (field 17 8 bytes) (tracks_at (track_count bytes) 29 bytes)

-- what the bytes say, by their kind
abbrev pub body_at : List ℕ → Body
body_at bytes =
    if slice_index bytes 0 == EDIT_KIND then edit_at bytes
    else if slice_index bytes 0 == UNDO_KIND then Undo
    else if slice_index bytes 0 == REDO_KIND then Redo
    else Purge (field 1 8 bytes)
