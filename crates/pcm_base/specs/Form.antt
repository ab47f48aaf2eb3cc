-- The commands of a script and the other calls, in their bounds. The parser gives no others, and an editor is asked no
-- others.
use Rattle.std.specs.Prelude.{ℕ, ◌+◌, ◌^◌, ◌<◌, ◌≤◌, nat_le, ◌==◌, ◌&&◌, ◌||◌, not, Bool, false, IsTrue, List, [], ◌∷◌}
use Rattle.std.specs.Prelude.{length, Option, Some, None}
use Rattle.std.specs.List.{list_all}
use Rattle.pcm_base.specs.declared.limits.TheConstants.{MAX_GAIN, MAX_LOADED, MAX_RAMP}
use Rattle.pcm_base.specs.Shape.{Shape, NewTrack, DropTrack, SetTrack, PutIn, EditRange, CutRun, CopyRun, PasteRun}
use Rattle.pcm_base.specs.Shape.{MoveTo, Purge, PurgeTo, Look, Reclaim, Compact, Import, Export, Bounce, Source, Given}
use Rattle.pcm_base.specs.Shape.{Ramp, View, Cells, Frames, Columns, Tracks, shape_of, gain_of_setting, gain_of_edit}
use Rattle.pcm_base.specs.{declared.command.Command.Command, declared.command.Call.Call}
use Rattle.pcm_base.specs.{declared.chunk.TheConstants.BATCH_SAMPLES}
use Rattle.pcm_base.specs.declared.command.Command.TheVariants as command
use Rattle.pcm_base.specs.declared.command.Call.TheVariants as call

-- a track's id, a place or a count
abbrev pub IsNumber : ℕ → Type 0
IsNumber n = n < 2 ^ 63

-- how many tracks a run has
abbrev pub IsCount : ℕ → Type 0
IsCount n = (0 < n) × IsNumber n

-- a gain, in parts of 65,536
abbrev pub IsGain : ℕ → Type 0
IsGain g = g ≤ MAX_GAIN

-- a letter, a digit, `.`, `_` or `-`, as its byte
abbrev pub is_name_byte : ℕ → Bool
is_name_byte b =
    (nat_le 48 b && nat_le b 57) || (nat_le 65 b && nat_le b 90) || (nat_le 97 b && nat_le b 122)
    || b == 46 || b == 95 || b == 45

-- not a `.`
abbrev pub begins_well : List ℕ → Bool
begins_well [] = false
begins_well (b ∷ bs) = not (b == 46)

-- the name of a sound: at most 255 of these bytes, of which the first is no `.`
abbrev pub is_name : List ℕ → Bool
is_name name = nat_le (length name) 255 && begins_well name && list_all is_name_byte name

abbrev pub IsName : List ℕ → Type 0
IsName name = IsTrue (is_name name)

-- how many block files are to be removed at most
abbrev pub IsLimit : Option ℕ → Type 0
IsLimit None = Unit {0}
IsLimit (Some n) = IsNumber n

-- a track, and a gain where there is one
abbrev pub IsTrackWith : ℕ → Option ℕ → Type 0
IsTrackWith track None = IsNumber track
IsTrackWith track (Some gain) = IsNumber track × IsGain gain

-- a range of one, and a gain where there is one
abbrev pub IsRangeWith : ℕ → ℕ → ℕ → Option ℕ → Type 0
IsRangeWith track from to None = IsNumber track × IsNumber from × IsNumber to
IsRangeWith track from to (Some gain) = IsNumber track × IsNumber from × IsNumber to × IsGain gain

-- a track and a place, and some samples
abbrev pub IsSourceAt : ℕ → ℕ → Source → Type 0
IsSourceAt track at (Given samples) = IsNumber track × IsNumber at × (0 < length samples)
IsSourceAt track at (Ramp count start step) = IsNumber track × IsNumber at × (0 < count) × (count ≤ MAX_RAMP)

abbrev pub IsViewInForm : View → Type 0
IsViewInForm (Cells track from to) = IsNumber track × IsNumber from × IsNumber to
IsViewInForm (Frames from to) = IsNumber from × IsNumber to
IsViewInForm (Columns track from to columns) = IsNumber track × IsNumber from × IsNumber to × IsNumber columns
IsViewInForm Tracks = Unit {0}

abbrev pub IsShapeInForm : Shape → Type 0
IsShapeInForm NewTrack = Unit {0}
IsShapeInForm (DropTrack track) = IsNumber track
IsShapeInForm (SetTrack track setting) = IsTrackWith track (gain_of_setting setting)
IsShapeInForm (PutIn track at source) = IsSourceAt track at source
IsShapeInForm (EditRange track from to edit) = IsRangeWith track from to (gain_of_edit edit)
IsShapeInForm (CutRun track count from to removing) = IsNumber track × IsCount count × IsNumber from × IsNumber to
IsShapeInForm (CopyRun track count from to) = IsNumber track × IsCount count × IsNumber from × IsNumber to
IsShapeInForm (PasteRun track at placing) = IsNumber track × IsNumber at
IsShapeInForm (MoveTo move) = Unit {0}
IsShapeInForm (Purge count) = IsNumber count
IsShapeInForm (PurgeTo bytes) = IsNumber bytes
IsShapeInForm (Look view) = IsViewInForm view
IsShapeInForm (Reclaim limit) = IsLimit limit
IsShapeInForm Compact = Unit {0}
IsShapeInForm (Import name) = IsName name
IsShapeInForm (Export name) = IsName name
IsShapeInForm (Bounce name) = IsName name

abbrev pub IsInForm : Command → Type 0
IsInForm c = IsShapeInForm (shape_of c)

-- The line is one turn. Each is but `bounce`, which takes several: an editor is not asked to carry it out in one.
abbrev pub IsTurn : Command → Type 0
IsTurn (command.Bounce name) = ⊥
IsTurn c = Unit {0}

-- A call, where this many commits were made. A line is one turn. A recording is numbered by one of them, and few samples
-- of it come at once. Of a pin no more frames are loaded at once than a load may have.
abbrev pub IsCallInForm : ℕ → Call → Type 0
IsCallInForm commit (call.Line c) = IsInForm c × IsTurn c
IsCallInForm commit (call.Piece track tag samples) = (1 ≤ tag) × (tag ≤ commit) × (length samples ≤ BATCH_SAMPLES)
IsCallInForm commit call.Pin = Unit {0}
IsCallInForm commit (call.PinLen pin) = Unit {0}
IsCallInForm commit (call.ReadPin pin from count) = Unit {0}
IsCallInForm commit (call.LoadPin pin from count) = (count ≤ MAX_LOADED) × (from + count < 2 ^ 64)
IsCallInForm commit (call.Unpin pin) = Unit {0}
