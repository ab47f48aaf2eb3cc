-- What was made for a recording or a playback before the script, and how each ends.
use Rattle.std.specs.Prelude.{◌≡◌, ◌⊎◌, ℕ, ◌+◌, ◌*◌, ◌<◌, ◌≤◌, ◌^◌, ◌/◌, ℤ, false, List, [], ◌∷◌, ◌++◌, length, take}
use Rattle.std.specs.Prelude.{Option, Some, None, sum_by, true}
use Rattle.std.specs.Io.KnownBytes.{IsAtEnd}
use Rattle.pcm_base.specs.declared.command.Call.TheVariants.{Piece, ReadPin, Unpin}
use Rattle.pcm_base.specs.{declared.answer.Reply.Reply, declared.command.Call.Call, declared.entry.Entry.Entry}
use Rattle.pcm_base.specs.{declared.refusal.Refusal.Refusal, declared.refusal.Refusal.TheVariants.NoMemory}
use Rattle.pcm_base.specs.{declared.sound.Frame.Frame, Causes.Rose, Recordings.chunks_of, Recordings.frame_bytes}
use Rattle.edit_ports.specs.Told.{grown, preceded}
use Rattle.pin_turn.specs.Counts.{Each}
use Rattle.script_reader.specs.Answering.{is_refusal}
use Rattle.script_text.specs.{declared.last.PlayEnd.PlayEnd, declared.last.PlayLine.PlayLine}
use Rattle.script_text.specs.{declared.last.RecordEnd.RecordEnd, declared.last.RecordLine.RecordLine}
use Rattle.studio_seats.specs.Freeing.{AreFreed, IsFullReclaim, makes_piece, pieces_of, unfreed}
use Rattle.studio_seats.specs.{Desks.spent, Reads.IsAsked}
use Rattle.desk_session.specs.declared.side.Side.{Side}
use Rattle.desk_session.specs.declared.side.Side.TheVariants.{Made, NotAsked, Refused}
use Rattle.session_run.specs.Streams.{Input, IsIdleInput, IsIdleOutput, Output}
use Rattle.pcm_base.specs.declared.answer.Reply.TheVariants as reply
use Rattle.pcm_base.specs.Recordings as recordings
use Rattle.script_text.specs.declared.last.PlayEnd.TheVariants as play
use Rattle.script_text.specs.declared.last.RecordEnd.TheVariants as rec

-- ---- before the script

-- one entry of the script's actor
pub record IsOne (call : Call) (r : Reply) (es : List Entry) : Type 0 where
  pub entry : Entry
  pub are : es ≡ entry ∷ []
  pub actor : entry.actor ≡ 0
  pub call_is : entry.call ≡ call
  pub reply : entry.reply ≡ r

-- the entries that made a side: one, and none where none was asked for or no turn was left
abbrev pub MakesSide : Call → (ℕ → Reply → Type 0) → Side → List Entry → Type 0
MakesSide call Gives NotAsked es = es ≡ []
MakesSide call Gives (Refused why) es = IsOne call (reply.Refused why) es ⊎ ((why ≡ spent) × (es ≡ []))
MakesSide call Gives (Made number) es = (r : Reply) × Gives number r × IsOne call r es

-- ---- the recording

-- These chunks are the pieces of a recording, in order and each once: first those of the first entry's samples, then
-- those of the others. Each entry was carried out, so it made a commit for each of its pieces.
abbrev pub ArePieces : ℕ → ℕ → List (List ℤ) → List Entry → Type 0
ArePieces track tag cs [] = cs ≡ []
ArePieces track tag cs (e ∷ es) = (samples : List ℤ) × (more : List (List ℤ))
    × (cs ≡ recordings.pieces_of samples ++ more) × (e.call ≡ Piece track tag samples)
    × (is_refusal e.reply ≡ false) × ArePieces track tag more es

-- what ends the reading of the microphone: its end, its fault, or the most that is read of it
abbrev pub MicWhole : List ℕ → Input → Type 0
MicWhole bytes mic = (length bytes < 2 ^ 33) × (mic.faults.now ≡ mic.faults.before) × IsAtEnd mic.left.now

abbrev pub MicFails : List ℕ → Input → Type 0
MicFails bytes mic = (length bytes < 2 ^ 33) × Rose mic.faults.before mic.faults.now

abbrev pub MicLimit : List ℕ → Input → Type 0
MicLimit bytes mic = (length bytes ≡ 2 ^ 33) × (mic.faults.now ≡ mic.faults.before)

-- by the end of the recording's line; where a piece was refused it is one of the three
abbrev pub MicEnds : RecordEnd → List ℕ → Input → Type 0
MicEnds rec.Whole bytes mic = MicWhole bytes mic
MicEnds rec.Fault bytes mic = MicFails bytes mic
MicEnds rec.Limit bytes mic = MicLimit bytes mic
MicEnds (rec.Refused why) bytes mic = MicWhole bytes mic ⊎ (MicFails bytes mic ⊎ MicLimit bytes mic)

-- What refused a piece, after those that were taken: one more entry of pieces says why, and none of them was taken.
-- Where it was not made, no turn was left, or memory was wanting before it.
abbrev pub PieceRefused : ℕ → ℕ → RecordEnd → List Entry → Type 0
PieceRefused track tag (rec.Refused why) es = ((samples : List ℤ) × (e : Entry) × (es ≡ e ∷ [])
    × (e.call ≡ Piece track tag samples) × (e.reply ≡ reply.Refused why))
    ⊎ ((es ≡ []) × ((why ≡ spent) ⊎ (why ≡ NoMemory)))
PieceRefused track tag end es = es ≡ []

-- The bytes that were read of the microphone were cut into chunks. The first of them are the pieces, each once, in
-- order, and each has a number. They are all of them only where none was refused. The actor's entries are of these
-- pieces, one of them or several that follow one another, and then that of what was refused; and a reclaim of all that
-- nothing names after each 64 pieces. At the end one more comes after the pieces since the last, or no turn was left
-- for it.
pub record Records (NoTurn : Type 0) (track tag : ℕ) (mic : Input) (line : RecordLine) (numbers : List ℕ)
    (own : List Entry) : Type 0 where
  pub bytes : List ℕ
  pub read : mic.left.before ≡ preceded bytes mic.left.now
  pub ended : MicEnds line.end bytes mic
  pub within : length numbers ≤ length (chunks_of bytes)
  pub all : ((why : Refusal) → line.end ≡ rec.Refused why → ⊥) → length numbers ≡ length (chunks_of bytes)
  pub fewer : (why : Refusal) → line.end ≡ rec.Refused why → length numbers < length (chunks_of bytes)
  pub taken : List Entry
  pub last : List Entry
  pub own_is : pieces_of own ≡ taken ++ last
  pub pieces : ArePieces track tag (take (length numbers) (chunks_of bytes)) taken
  pub refused : PieceRefused track tag line.end last
  pub reclaims : Each (λ e. makes_piece e.call ≡ false → IsFullReclaim e.call) own
  pub freed : AreFreed true 0 own
  pub freed_last : (unfreed 0 own ≡ 0) ⊎ NoTurn
  pub track_is : line.track ≡ track
  pub pieces_are : line.pieces ≡ length numbers
  pub samples_are : line.samples ≡ sum_by length (take (length numbers) (chunks_of bytes))

-- the recording by its side: its line, the numbers of its pieces, and the entries of its actor
abbrev pub RecordsSide : Type 0 → Side → ℕ → Input → Option RecordLine → List ℕ → List Entry → Type 0
RecordsSide NoTurn NotAsked track mic line numbers own = (line ≡ None) × (numbers ≡ []) × (own ≡ []) × IsIdleInput mic
RecordsSide NoTurn (Refused why) track mic line numbers own =
    (line ≡ Some (record { track = 0; pieces = 0; samples = 0; end = rec.Refused why })) × (numbers ≡ []) × (own ≡ [])
    × IsIdleInput mic
RecordsSide NoTurn (Made tag) track mic line numbers own =
    (told : RecordLine) × (line ≡ Some told) × Records NoTurn track tag mic told numbers own

-- ---- the playback

-- These entries read a pin from this place on, and come to the other place. Each begins where the one before it ended,
-- and gives as many frames as it asks for.
abbrev pub AreReads : ℕ → ℕ → ℕ → List Entry → Type 0
AreReads pin from to [] = to ≡ from
AreReads pin from to (e ∷ es) = (frames : List Frame) × IsAsked (length frames)
    × (e.call ≡ ReadPin pin from (length frames)) × (e.reply ≡ reply.Frames frames)
    × AreReads pin (from + length frames) to es

-- one entry that reads a pin at this place
pub record IsRead (pin from count : ℕ) (r : Reply) (es : List Entry) : Type 0 where
  pub entry : Entry
  pub are : es ≡ entry ∷ []
  pub asked : IsAsked count
  pub call_is : entry.call ≡ ReadPin pin from count
  pub reply_is : entry.reply ≡ r

-- What ended the reads at this place: one that gave fewer frames than it asked for. Or one was refused, as the line
-- says, or no turn was left for it.
abbrev pub ReadsEnd : ℕ → ℕ → PlayEnd → List Entry → Type 0
ReadsEnd pin place (play.Refused why) es =
    ((count : ℕ) × IsRead pin place count (reply.Refused why) es) ⊎ ((es ≡ []) × (why ≡ spent))
ReadsEnd pin place end es =
    (count : ℕ) × (frames : List Frame) × (length frames < count) × IsRead pin place count (reply.Frames frames) es

-- the pin is released once, at the end, or no turn was left for that
abbrev pub IsRelease : Type 0 → ℕ → List Entry → Type 0
IsRelease NoTurn pin es = ((e : Entry) × (es ≡ e ∷ []) × (e.call ≡ Unpin pin)) ⊎ ((es ≡ []) × NoTurn)

-- A prefix of the bytes of the frames that the pin shows was written to the speaker. It is all of them where the line
-- has no refusal and no fault. Where a read was refused, it is all that was read before, four bytes a frame, unless the
-- speaker failed. The actor of the playback read them from the first on, each once, in order, up to the
-- end or to a refusal, and then released the pin.
pub record Plays (NoTurn : Type 0) (pin : ℕ) (mix : List Frame) (speaker : Output) (line : PlayLine) (own : List Entry)
    : Type 0 where
  pub bytes : ℕ
  pub within : bytes ≤ length (frame_bytes mix)
  pub written : speaker.written.now ≡ grown speaker.written.before (take bytes (frame_bytes mix))
  pub frames_are : line.frames ≡ bytes / 4
  pub all : line.end ≡ play.Whole → (bytes ≡ length (frame_bytes mix)) × (speaker.faults.now ≡ speaker.faults.before)
  pub fault : line.end ≡ play.Fault → Rose speaker.faults.before speaker.faults.now
  pub reads : List Entry
  pub place : ℕ
  pub refused : (why : Refusal) → line.end ≡ play.Refused why
      → ((bytes ≡ 4 * place) × (speaker.faults.now ≡ speaker.faults.before))
      ⊎ Rose speaker.faults.before speaker.faults.now
  pub last : List Entry
  pub release : List Entry
  pub own_is : own ≡ (reads ++ last) ++ release
  pub are : AreReads pin 0 place reads
  pub ended : ReadsEnd pin place line.end last
  pub released : IsRelease NoTurn pin release

-- the playback by its side, where the pin shows the frames of a mix
abbrev pub PlaysSide : Type 0 → Side → (ℕ → List Frame → Type 0) → Output → Option PlayLine → List Entry → Type 0
PlaysSide NoTurn NotAsked Shows speaker line own = (line ≡ None) × (own ≡ []) × IsIdleOutput speaker
PlaysSide NoTurn (Refused why) Shows speaker line own =
    (line ≡ Some (record { frames = 0; end = play.Refused why })) × (own ≡ []) × IsIdleOutput speaker
PlaysSide NoTurn (Made pin) Shows speaker line own =
    (told : PlayLine) × (line ≡ Some told)
    × ((mix : List Frame) → Shows pin mix → Plays NoTurn pin mix speaker told own)
