-- What lines have in common: each line has a shape. The tables of the model are over shapes, so that a new line of a shape
-- that is here is a row of `shape_of` alone.
use Rattle.std.specs.Prelude.{ℕ, ℤ, Bool, true, false, List, Option, Some, None}
use Rattle.pcm_base.specs.declared.edits.Removing.TheVariants.{Close, Leave}
use Rattle.pcm_base.specs.declared.edits.Placing.TheVariants.{Insert, Cover}
use Rattle.pcm_base.specs.{declared.sound.Side.Side, declared.command.Command.Command}
use Rattle.pcm_base.specs.{declared.edits.RangeEdit.RangeEdit, declared.edits.Removing.Removing}
use Rattle.pcm_base.specs.{declared.edits.Placing.Placing}
use Rattle.pcm_base.specs.declared.command.Command.TheVariants as command
use Rattle.pcm_base.specs.declared.edits.RangeEdit.TheVariants as range

-- what a track is set to: its gain, the sides on which it is heard, or whether it is muted
pub data Setting : Type 0 where
  Gain : ℕ → Setting
  Sides : Side → Setting
  Muted : Bool → Setting

-- the samples that come to a track: these, or this many from a first one on in steps
pub data Source : Type 0 where
  Given : List ℤ → Source
  Ramp : ℕ → ℤ → ℤ → Source

-- where the history is moved to
pub data Move : Type 0 where
  Back : Move
  Forward : Move

-- what is looked at: the cells of a range of a track, the frames of a range of the mix, the scans of the columns of a
-- range of a track, or the tracks
pub data View : Type 0 where
  Cells : ℕ → ℕ → ℕ → View
  Frames : ℕ → ℕ → View
  Columns : ℕ → ℕ → ℕ → ℕ → View
  Tracks : View

-- A track is named by its id, a run of tracks by the id of its first and its count, a range by its first place and the
-- place after its last.
pub data Shape : Type 0 where
  NewTrack : Shape
  DropTrack : ℕ → Shape
  SetTrack : ℕ → Setting → Shape
  PutIn : ℕ → ℕ → Source → Shape
  EditRange : ℕ → ℕ → ℕ → RangeEdit → Shape
  CutRun : ℕ → ℕ → ℕ → ℕ → Removing → Shape
  CopyRun : ℕ → ℕ → ℕ → ℕ → Shape
  PasteRun : ℕ → ℕ → Placing → Shape
  MoveTo : Move → Shape
  Purge : ℕ → Shape
  PurgeTo : ℕ → Shape
  Look : View → Shape
  Reclaim : Option ℕ → Shape
  Compact : Shape
  Import : List ℕ → Shape
  Export : List ℕ → Shape
  Bounce : List ℕ → Shape

abbrev pub shape_of : Command → Shape
shape_of command.Track = NewTrack
shape_of (command.Drop id) = DropTrack id
shape_of (command.Level id gain) = SetTrack id (Gain gain)
shape_of (command.Side id side) = SetTrack id (Sides side)
shape_of (command.Mute id mute) = SetTrack id (Muted mute)
shape_of (command.Put id at samples) = PutIn id at (Given samples)
shape_of (command.Ramp id at n start step) = PutIn id at (Ramp n start step)
shape_of (command.Delete id from to) = EditRange id from to range.Delete
shape_of (command.SplitDelete id from to) = EditRange id from to range.SplitDelete
shape_of (command.Silence id from to) = EditRange id from to range.Silence
shape_of (command.Trim id from to) = EditRange id from to range.Trim
shape_of (command.Gain id from to gain) = EditRange id from to (range.Gain gain)
shape_of (command.Cut id n from to) = CutRun id n from to Close
shape_of (command.SplitCut id n from to) = CutRun id n from to Leave
shape_of (command.Copy id n from to) = CopyRun id n from to
shape_of (command.Paste id at) = PasteRun id at Insert
shape_of (command.PasteOver id at) = PasteRun id at Cover
shape_of command.Undo = MoveTo Back
shape_of command.Redo = MoveTo Forward
shape_of (command.Purge n) = Purge n
shape_of (command.PurgeTo bytes) = PurgeTo bytes
shape_of (command.Show id from to) = Look (Cells id from to)
shape_of (command.Mix from to) = Look (Frames from to)
shape_of (command.Envelope id from to columns) = Look (Columns id from to columns)
shape_of command.Tracks = Look Tracks
shape_of (command.Reclaim limit) = Reclaim limit
shape_of command.Compact = Compact
shape_of (command.Import name) = Import name
shape_of (command.Export name) = Export name
shape_of (command.Bounce name) = Bounce name

-- the line of an edit of a range
abbrev pub range_line : RangeEdit → (id from to : ℕ) → Command
range_line range.Delete id from to = command.Delete id from to
range_line range.SplitDelete id from to = command.SplitDelete id from to
range_line range.Silence id from to = command.Silence id from to
range_line range.Trim id from to = command.Trim id from to
range_line (range.Gain gain) id from to = command.Gain id from to gain

-- and that of the clipboard put in
abbrev pub paste_line : Placing → (id at : ℕ) → Command
paste_line Insert id at = command.Paste id at
paste_line Cover id at = command.PasteOver id at

-- ---- what the parts of a shape say

-- the gain that a track is set to
abbrev pub gain_of_setting : Setting → Option ℕ
gain_of_setting (Gain gain) = Some gain
gain_of_setting (Sides side) = None
gain_of_setting (Muted mute) = None

-- the gain of an edit
abbrev pub gain_of_edit : RangeEdit → Option ℕ
gain_of_edit range.Delete = None
gain_of_edit range.SplitDelete = None
gain_of_edit range.Silence = None
gain_of_edit range.Trim = None
gain_of_edit (range.Gain gain) = Some gain

-- whether the samples of the range are computed anew
abbrev pub is_computed : RangeEdit → Bool
is_computed range.Delete = false
is_computed range.SplitDelete = false
is_computed range.Silence = true
is_computed range.Trim = false
is_computed (range.Gain gain) = true

-- whether the line is a commit: not where it only looks, copies, reclaims, compacts, exports or bounces
abbrev pub is_commit : Shape → Bool
is_commit NewTrack = true
is_commit (DropTrack id) = true
is_commit (SetTrack id setting) = true
is_commit (PutIn id at source) = true
is_commit (EditRange id from to edit) = true
is_commit (CutRun id n from to removing) = true
is_commit (CopyRun id n from to) = false
is_commit (PasteRun id at placing) = true
is_commit (MoveTo move) = true
is_commit (Purge n) = true
is_commit (PurgeTo bytes) = true
is_commit (Look view) = false
is_commit (Reclaim limit) = false
is_commit Compact = false
is_commit (Import name) = true
is_commit (Export name) = false
is_commit (Bounce name) = false
