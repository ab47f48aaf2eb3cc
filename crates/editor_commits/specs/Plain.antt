-- Edits that make no blocks: what each refuses, and the project that it makes.
use Rattle.std.specs.Prelude.{◌≡◌, ℕ, ◌+◌, ◌≤◌, nat_lt, false, List, [], ◌∷◌, ◌++◌, length, Option, Some}
use Rattle.pcm_base.specs.declared.limits.TheConstants.{MAX_GAIN, MAX_TRACKS, UNITY_GAIN}
use Rattle.pcm_base.specs.{declared.sound.Side.TheVariants.Both, declared.command.Command.Command}
use Rattle.pcm_base.specs.{declared.refusal.Refusal.Refusal, declared.refusal.Refusal.TheVariants.TrackLimit}
use Rattle.pcm_base.specs.{Refusals.refused_if}
use Rattle.project_state.specs.Tracks.{track_of}
use Rattle.pcm_base.specs.declared.command.Command.TheVariants as command
pub use Rattle.project_state.specs.Tracks.{other_one, without}
use Rattle.project_state.specs.declared.track.Track.{Track}
use Rattle.editor_commits.specs.declared.plain_edit.PlainEdit.{PlainEdit}
use Rattle.editor_commits.specs.declared.plain_edit.PlainEdit.TheVariants as edit
use Rattle.editor_state.specs.Points.{put_in, lacks}

-- the line that asks for it
abbrev pub line_of : PlainEdit → Command
line_of edit.Track = command.Track
line_of (edit.Drop id) = command.Drop id
line_of (edit.Level id gain) = command.Level id gain
line_of (edit.Side id side) = command.Side id side
line_of (edit.Mute id mute) = command.Mute id mute

abbrev pub IsGood : PlainEdit → Type 0
IsGood edit.Track = Unit {0}
IsGood (edit.Drop id) = Unit {0}
IsGood (edit.Level id gain) = gain ≤ MAX_GAIN
IsGood (edit.Side id side) = Unit {0}
IsGood (edit.Mute id mute) = Unit {0}

abbrev pub tracks_by : PlainEdit → ℕ
tracks_by edit.Track = 1
tracks_by (edit.Drop id) = 0
tracks_by (edit.Level id gain) = 0
tracks_by (edit.Side id side) = 0
tracks_by (edit.Mute id mute) = 0

-- what refuses it
abbrev pub refusal_by : PlainEdit → List Track → Option Refusal
refusal_by edit.Track ts = refused_if (nat_lt MAX_TRACKS (length ts + 1)) TrackLimit
refusal_by (edit.Drop id) ts = lacks id (track_of id ts)
refusal_by (edit.Level id gain) ts = lacks id (track_of id ts)
refusal_by (edit.Side id side) ts = lacks id (track_of id ts)
refusal_by (edit.Mute id mute) ts = lacks id (track_of id ts)

-- what it makes of a track
abbrev pub set_by : PlainEdit → Track → Track
set_by edit.Track t = t
set_by (edit.Drop id) t = t
set_by (edit.Level id gain) t = record t { gain = gain }
set_by (edit.Side id side) t = record t { side = side }
set_by (edit.Mute id mute) t = record t { mute = mute }

-- the tracks with the one of an id changed
pub record IsSet (id : ℕ) (f : Track → Track) (old new : List Track) : Type 0 where
  pub track : Track
  pub found : track_of id old ≡ Some track
  pub is : new ≡ put_in (f track) old

-- a track without clips
abbrev pub empty_track : (id number : ℕ) → Track
empty_track id number =
    record { id = id; gain = UNITY_GAIN; side = Both; mute = false; number = number; layout = [] }

-- how many layouts it makes
abbrev pub layouts_by : PlainEdit → ℕ
layouts_by edit.Track = 1
layouts_by (edit.Drop id) = 0
layouts_by (edit.Level id gain) = 0
layouts_by (edit.Side id side) = 0
layouts_by (edit.Mute id mute) = 0

-- the project that it makes, where the next track has this id, and the next layout this number
abbrev pub IsEdited : PlainEdit → (id number : ℕ) → List Track → List Track → Type 0
IsEdited edit.Track next number old new = new ≡ old ++ empty_track next number ∷ []
IsEdited (edit.Drop id) next number old new = new ≡ without id old
IsEdited (edit.Level id gain) next number old new = IsSet id (set_by (edit.Level id gain)) old new
IsEdited (edit.Side id side) next number old new = IsSet id (set_by (edit.Side id side)) old new
IsEdited (edit.Mute id mute) next number old new = IsSet id (set_by (edit.Mute id mute)) old new
