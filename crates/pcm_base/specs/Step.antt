-- What a call that nothing refuses leaves, and what it answers.
use Rattle.std.specs.Prelude.{◌≡◌, ℕ, ◌+◌, ◌-◌, ◌<◌, ◌≤◌, ◌==◌, if◌then◌else◌, ℤ, List, [], ◌∷◌, ◌++◌, length, map}
use Rattle.std.specs.Prelude.{take, drop, replicate, false, Option, Some, None, Result, Ok, Err}
use Rattle.pcm_base.specs.Cells.{Track, Project, trimmed, tracks_from, cells_at, run_edited, edited_at, dropped}
use Rattle.pcm_base.specs.Cells.{changed_at}
use Rattle.pcm_base.specs.Edits.{as_cells, part, range_of, inserted, range_edited, removed, placed, source_cells}
use Rattle.pcm_base.specs.Edits.{with_setting}
use Rattle.pcm_base.specs.History.{History, edited, recorded, at_cursor, purged}
use Rattle.pcm_base.specs.Shape.{Shape, NewTrack, DropTrack, SetTrack, PutIn, EditRange, CutRun, CopyRun, PasteRun}
use Rattle.pcm_base.specs.Shape.{MoveTo, Purge, PurgeTo, Look, Reclaim, Compact, Import, Export, Bounce, Back, Forward}
use Rattle.pcm_base.specs.Shape.{View, Cells, Frames, Columns, Tracks, shape_of, is_commit}
use Rattle.pcm_base.specs.{declared.sound.Cell.Cell, declared.sound.Side.TheVariants.Both}
use Rattle.pcm_base.specs.{declared.sound.TrackLine.TrackLine, declared.command.Command.Command}
use Rattle.pcm_base.specs.{declared.command.Call.Call, declared.answer.Reply.Reply}
use Rattle.pcm_base.specs.{declared.limits.TheConstants.COUNTER_LIMIT, declared.limits.TheConstants.FIRST_RECORD}
use Rattle.pcm_base.specs.{declared.limits.TheConstants.UNITY_GAIN, declared.wav.WavFault.WavFault, Mix.loaded_of}
use Rattle.pcm_base.specs.{Mix.mix_of, Mix.mix_length, Recordings.pieces_in, Wave.Sound, Wave.wav_of, Wave.wav_text}
use Rattle.pcm_base.specs.{Outside.Outside, Envelope.columns_of, State.State, State.current, State.clip_of}
use Rattle.pcm_base.specs.declared.command.Call.TheVariants as call
use Rattle.pcm_base.specs.declared.answer.Reply.TheVariants as reply

-- a new track: unity gain, on both sides, not muted
abbrev pub new_track : ℕ → List Cell → Track
new_track id cells = record { id = id; gain = UNITY_GAIN; side = Both; mute = false; cells = cells }

-- a commit whose project is a new point
abbrev pub with_project : State → Project → State
with_project s p = record s { history = edited s.history p 0; commit = s.commit + 1 }

-- a commit that goes to another point
abbrev pub moved_to : State → ℕ → State
moved_to s cursor = record s { history = at_cursor s.history cursor; commit = s.commit + 1 }

-- a state with another clipboard
abbrev pub with_clipboard : State → List (List Cell) → State
with_clipboard s clip = record s { clipboard = Some clip }

-- the tracks with an id and after it edited, one function for each
abbrev pub with_run : State → ℕ → List (List Cell → List Cell) → State
with_run s id edits = with_project s (run_edited id edits (current s))

-- the cells of a range of each of n tracks
abbrev pub copied : ℕ → ℕ → ℕ → ℕ → Project → List (List Cell)
copied id n from to p = map (λ t. range_of from to t.cells) (take n (tracks_from id p))

-- new tracks with these samples, their ids from one on
abbrev pub channel_tracks : ℕ → List (List ℤ) → Project
channel_tracks id [] = []
channel_tracks id (samples ∷ more) = new_track id (as_cells samples) ∷ channel_tracks (id + 1) more

-- a commit that adds a track for each channel
abbrev pub with_channels : State → List (List ℤ) → State
with_channels s channels =
    record (with_project s
    (current s ++ channel_tracks s.next_track channels)) { next_track = s.next_track + length channels }

-- the channels of a file, none where it cannot be read
abbrev pub channels_in : Result Sound WavFault → List (List ℤ)
channels_in (Ok sound) = sound.channels
channels_in (Err fault) = []

abbrev pub channels_of : Option (List ℕ) → List (List ℤ)
channels_of None = []
channels_of (Some bytes) = channels_in (wav_of bytes)

-- what is told of a track
abbrev pub line_of_track : Track → TrackLine
line_of_track t = record { id = t.id; gain = t.gain; side = t.side; mute = t.mute; len = length t.cells }

-- ---- a line

-- the history after a line: another point, the same ones with another current one, or without the oldest
abbrev pub history_after : Outside → State → Shape → History Project
history_after out s NewTrack = edited s.history (current s ++ new_track s.next_track [] ∷ []) 0
history_after out s (DropTrack id) = edited s.history (dropped id (current s)) 0
history_after out s (SetTrack id setting) = edited s.history (changed_at id (with_setting setting) (current s)) 0
history_after out s (PutIn id at source) =
    edited s.history (edited_at id (inserted at (source_cells source)) (current s)) 0
history_after out s (EditRange id from to edit) =
    edited s.history (edited_at id (range_edited edit from to) (current s)) 0
history_after out s (CutRun id n from to removing) =
    edited s.history (run_edited id (replicate n (removed removing from to)) (current s)) 0
history_after out s (CopyRun id n from to) = s.history
history_after out s (PasteRun id at placing) =
    edited s.history (run_edited id (map (placed placing at) (clip_of s)) (current s)) 0
history_after out s (MoveTo Back) = at_cursor s.history (s.history.cursor - 1)
history_after out s (MoveTo Forward) = at_cursor s.history (s.history.cursor + 1)
history_after out s (Purge n) = purged s.history n
-- what goes is what the reply says: `answered` of Run.antt
history_after out s (PurgeTo bytes) = s.history
history_after out s (Look view) = s.history
history_after out s (Reclaim limit) = s.history
history_after out s Compact = s.history
history_after out s (Import name) =
    edited s.history (current s ++ channel_tracks s.next_track (channels_of out.sound)) 0
history_after out s (Export name) = s.history
history_after out s (Bounce name) = s.history

-- the clipboard after a line: what was cut or copied
abbrev pub clipboard_after : State → Shape → Option (List (List Cell))
clipboard_after s NewTrack = s.clipboard
clipboard_after s (DropTrack id) = s.clipboard
clipboard_after s (SetTrack id setting) = s.clipboard
clipboard_after s (PutIn id at source) = s.clipboard
clipboard_after s (EditRange id from to edit) = s.clipboard
clipboard_after s (CutRun id n from to removing) = Some (copied id n from to (current s))
clipboard_after s (CopyRun id n from to) = Some (copied id n from to (current s))
clipboard_after s (PasteRun id at placing) = s.clipboard
clipboard_after s (MoveTo move) = s.clipboard
clipboard_after s (Purge n) = s.clipboard
clipboard_after s (PurgeTo bytes) = s.clipboard
clipboard_after s (Look view) = s.clipboard
clipboard_after s (Reclaim limit) = s.clipboard
clipboard_after s Compact = s.clipboard
clipboard_after s (Import name) = s.clipboard
clipboard_after s (Export name) = s.clipboard
clipboard_after s (Bounce name) = s.clipboard

-- how many track ids a line gives, where it gives any
abbrev pub tracks_given : Outside → Shape → Option ℕ
tracks_given out NewTrack = Some 1
tracks_given out (DropTrack id) = None
tracks_given out (SetTrack id setting) = None
tracks_given out (PutIn id at source) = None
tracks_given out (EditRange id from to edit) = None
tracks_given out (CutRun id n from to removing) = None
tracks_given out (CopyRun id n from to) = None
tracks_given out (PasteRun id at placing) = None
tracks_given out (MoveTo move) = None
tracks_given out (Purge n) = None
tracks_given out (PurgeTo bytes) = None
tracks_given out (Look view) = None
tracks_given out (Reclaim limit) = None
tracks_given out Compact = None
tracks_given out (Import name) = Some (length (channels_of out.sound))
tracks_given out (Export name) = None
tracks_given out (Bounce name) = None

-- a number that goes on by these, if by any
abbrev pub onward : ℕ → Option ℕ → ℕ
onward n None = n
onward n (Some more) = n + more

-- the state after a line of this shape: the pins stay, and a commit raises the commit number by one
abbrev pub after_shape : Outside → State → Shape → State
after_shape out s shape = record s {
  history = history_after out s shape;
  clipboard = clipboard_after s shape;
  next_track = onward s.next_track (tracks_given out shape);
  commit = if is_commit shape then s.commit + 1 else s.commit;
}

abbrev pub after_line : Outside → State → Command → State
after_line out s c = after_shape out s (shape_of c)

-- ---- a call

-- the pins with one more, and without one
abbrev pub with_pin : ℕ → Project → (ℕ → Option Project) → ℕ → Option Project
with_pin number p pins n = if n == number then Some p else pins n

abbrev pub without_pin : ℕ → (ℕ → Option Project) → ℕ → Option Project
without_pin number pins n = if n == number then None else pins n

-- samples of a recording at the end of a track: a commit for each of their pieces
abbrev pub with_piece : State → ℕ → ℕ → List ℤ → State
with_piece s track tag samples = record s {
  history = recorded s.history (edited_at track (λ cells. trimmed (cells ++ as_cells samples)) (current s)) tag;
  commit = s.commit + pieces_in (length samples);
}

-- the state after a call
abbrev pub after : Outside → State → Call → State
after out s (call.Line c) = after_line out s c
after out s (call.Piece track tag samples) = with_piece s track tag samples
after out s call.Pin = record s { pins = with_pin s.next_pin (current s) s.pins; next_pin = s.next_pin + 1 }
after out s (call.PinLen pin) = s
after out s (call.ReadPin pin from count) = s
after out s (call.LoadPin pin from count) = s
after out s (call.Unpin pin) = record s { pins = without_pin pin s.pins }

-- the mix as a WAV file
abbrev pub mix_file : ℕ → State → List ℕ
mix_file rate s = wav_text (mix_of (current s)) rate

-- the sound that a line names, after it
abbrev pub sound_by : Outside → State → Shape → Option (List ℕ)
sound_by out s NewTrack = out.sound
sound_by out s (DropTrack id) = out.sound
sound_by out s (SetTrack id setting) = out.sound
sound_by out s (PutIn id at source) = out.sound
sound_by out s (EditRange id from to edit) = out.sound
sound_by out s (CutRun id n from to removing) = out.sound
sound_by out s (CopyRun id n from to) = out.sound
sound_by out s (PasteRun id at placing) = out.sound
sound_by out s (MoveTo move) = out.sound
sound_by out s (Purge n) = out.sound
sound_by out s (PurgeTo bytes) = out.sound
sound_by out s (Look view) = out.sound
sound_by out s (Reclaim limit) = out.sound
sound_by out s Compact = out.sound
sound_by out s (Import name) = out.sound
sound_by out s (Export name) = Some (mix_file out.rate s)
sound_by out s (Bounce name) = out.sound

abbrev pub sound_after_line : Outside → State → Command → Option (List ℕ)
sound_after_line out s c = sound_by out s (shape_of c)

-- and after a call
abbrev pub sound_after : Outside → State → Call → Option (List ℕ)
sound_after out s (call.Line c) = sound_after_line out s c
sound_after out s (call.Piece track tag samples) = out.sound
sound_after out s call.Pin = out.sound
sound_after out s (call.PinLen pin) = out.sound
sound_after out s (call.ReadPin pin from count) = out.sound
sound_after out s (call.LoadPin pin from count) = out.sound
sound_after out s (call.Unpin pin) = out.sound

-- as many files were removed as were asked for, or fewer
abbrev pub IsWithin : Option ℕ → ℕ → Type 0
IsWithin None count = Unit {0}
IsWithin (Some limit) count = count ≤ limit

-- what is seen
abbrev pub seen : State → View → Reply
seen s (Cells id from to) = reply.Cells (part from to (cells_at id (current s)))
seen s (Frames from to) = reply.Frames (part from to (mix_of (current s)))
seen s (Columns id from to columns) = reply.Columns (columns_of from to columns (cells_at id (current s)))
seen s Tracks = reply.Tracks (map line_of_track (current s))

-- what a line may answer
abbrev pub MayReplyBy : Outside → State → Shape → Reply → Type 0
MayReplyBy out s NewTrack r = r ≡ reply.Done
MayReplyBy out s (DropTrack id) r = r ≡ reply.Done
MayReplyBy out s (SetTrack id setting) r = r ≡ reply.Done
MayReplyBy out s (PutIn id at source) r = r ≡ reply.Done
MayReplyBy out s (EditRange id from to edit) r = r ≡ reply.Done
MayReplyBy out s (CutRun id n from to removing) r = r ≡ reply.Done
MayReplyBy out s (CopyRun id n from to) r = r ≡ reply.Copied
MayReplyBy out s (PasteRun id at placing) r = r ≡ reply.Done
MayReplyBy out s (MoveTo move) r = r ≡ reply.Done
MayReplyBy out s (Purge n) r = r ≡ reply.Done
MayReplyBy out s (PurgeTo bytes) r = (n : ℕ) × (r ≡ reply.Purged n) × (1 ≤ n) × (n ≤ s.history.cursor)
MayReplyBy out s (Look view) r = r ≡ seen s view
MayReplyBy out s (Reclaim limit) r = (count : ℕ) × (r ≡ reply.Freed count) × IsWithin limit count
MayReplyBy out s Compact r = (bytes : ℕ) × (r ≡ reply.Packed bytes) × (FIRST_RECORD < bytes) × (bytes ≤ COUNTER_LIMIT)
MayReplyBy out s (Import name) r = r ≡ reply.Done
MayReplyBy out s (Export name) r = r ≡ reply.Wrote (length (mix_file out.rate s))
-- the line is no step: its turns are
MayReplyBy out s (Bounce name) r = ⊥

abbrev pub MayReply : Outside → State → Command → Reply → Type 0
MayReply out s c r = MayReplyBy out s (shape_of c) r

-- the project of a pin answers
abbrev pub FromPin : State → ℕ → (Project → Reply) → Reply → Type 0
FromPin s pin f r = (p : Project) × (s.pins pin ≡ Some p) × (r ≡ f p)

-- what a call may answer
abbrev pub MayAnswer : Outside → State → Call → Reply → Type 0
MayAnswer out s (call.Line c) r = MayReply out s c r
MayAnswer out s (call.Piece track tag samples) r = r ≡ reply.Done
MayAnswer out s call.Pin r = r ≡ reply.Pinned s.next_pin
MayAnswer out s (call.PinLen pin) r = FromPin s pin (λ p. reply.Length (mix_length p)) r
MayAnswer out s (call.ReadPin pin from count) r =
    FromPin s pin (λ p. reply.Frames (take count (drop from (mix_of p)))) r
MayAnswer out s (call.LoadPin pin from count) r = FromPin s pin (λ p. reply.Loaded (loaded_of from count p)) r
MayAnswer out s (call.Unpin pin) r = r ≡ reply.Done
