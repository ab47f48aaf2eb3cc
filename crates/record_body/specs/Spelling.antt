-- The one spelling of a record's body as bytes.
use Rattle.std.specs.Prelude.{ℕ, Bool, List, [], ◌∷◌, ◌++◌, length, if◌then◌else◌}
use Rattle.std.specs.List.{flat_map}
use Rattle.byteorder.specs.Endian.{little_bytes}
use Rattle.pcm_base.specs.{declared.block.BlockRef.BlockRef, declared.sound.Side.Side}
use Rattle.clip_track.specs.declared.clips.Clip.{Clip}
use Rattle.project_state.specs.declared.track.Track.{Track}
use Rattle.record_body.specs.declared.body.Body.{Body}
use Rattle.record_body.specs.declared.body.Body.TheVariants.{Edit, Undo, Redo, Purge}
use Rattle.record_body.specs.declared.kinds.TheConstants.{EDIT_KIND, UNDO_KIND, REDO_KIND, PURGE_KIND}
use Rattle.pcm_base.specs.declared.sound.Side.TheVariants as side

-- id and length
abbrev pub block_bytes : BlockRef → List ℕ
block_bytes b = little_bytes 8 b.id ++ little_bytes 4 b.len

-- start, how many blocks, and the blocks
abbrev pub clip_bytes : Clip → List ℕ
clip_bytes c = little_bytes 8 c.start ++ (little_bytes 4 (length c.blocks) ++ flat_map block_bytes c.blocks)

abbrev pub side_byte : Side → ℕ
side_byte side.Both = 0
side_byte side.Left = 1
side_byte side.Right = 2

abbrev pub mute_byte : Bool → ℕ
mute_byte mute = if mute then 1 else 0

-- id, gain, side, mute, how many clips, and the clips
abbrev pub track_bytes : Track → List ℕ
track_bytes t = little_bytes 8 t.id ++ (little_bytes 4 t.gain
    ++ (side_byte t.side ∷ mute_byte t.mute ∷ (little_bytes 4 (length t.layout) ++ flat_map clip_bytes t.layout)))

-- how many tracks, and the tracks
abbrev pub project_bytes : List Track → List ℕ
project_bytes ts = little_bytes 4 (length ts) ++ flat_map track_bytes ts

-- the kind, and what belongs to it: of an edit the tag, next block, next track and the project
abbrev pub spelling : Body → List ℕ
spelling (Edit tag next_block next_track point) =
    EDIT_KIND ∷ (little_bytes 8 tag
    ++ (little_bytes 8 next_block ++ (little_bytes 8 next_track ++ project_bytes point)))
spelling Undo = UNDO_KIND ∷ []
spelling Redo = REDO_KIND ∷ []
spelling (Purge n) = PURGE_KIND ∷ little_bytes 8 n
