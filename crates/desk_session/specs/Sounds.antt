-- What a recording and a playback have done.
use Rattle.std.specs.Prelude.{◌≡◌, ◌⊎◌, ℕ, ◌/◌, ℤ, Bool, true, false, List, [], ◌++◌, length, take, Option, Some, None}
use Rattle.std.specs.Prelude.{Result}
use Rattle.pcm_base.specs.{declared.answer.Reply.Reply, declared.command.Call.TheVariants.Unpin}
use Rattle.pcm_base.specs.{declared.refusal.Refusal.Refusal, declared.sound.Frame.Frame, Recordings.chunks_of}
use Rattle.edit_ports.specs.Told.{Open, preceded}
use Rattle.recorder_threads.specs.{Blocks.mic_state, Captured.IsStoppedBy, Captured.mic_course, Drained.Takes}
use Rattle.player_threads.specs.{Filled.reads_to, Spoken.Writes, Spoken.speaker_state}
use Rattle.studio_seats.specs.{declared.deed.Deed.Deed, Deeds.entries_of, Freeing.AreFreed, Freeing.unfreed}
use Rattle.studio_seats.specs.{Merge.deeds_of, Onward.EndsBy, Reads.ReadsTo, Recording.asks_piece}
use Rattle.script_reader.specs.Change.{Change}
use Rattle.desk_session.specs.{declared.outcome.PlayOutcome.PlayOutcome, declared.outcome.RecordOutcome.RecordOutcome}
use Rattle.desk_session.specs.{Opening.OwnDeed}
use Rattle.edit_ports.specs.declared.sink.Sink as sink
use Rattle.edit_ports.specs.declared.source.Source as source

-- These bytes were read of the microphone, up to what stopped it, with no read after its end or after one that failed;
-- the pieces of the recording are their chunks, in order and each once, with these numbers, up to the first that was
-- refused, where the taker of the pieces had `told`.
pub record IsRecorded {M : Type 0} (mics : source.Ghosts M) (mic : Change M) (pieces : Change (List (List ℤ × ℕ)))
    (told : Option Refusal) (kept : RecordOutcome) : Type 0 where
  pub bytes : List ℕ
  pub read : mics.left mic.before ≡ preceded bytes (mics.left mic.now)
  pub stopped : IsStoppedBy kept.end bytes (mic_state mics mic.before) (mic_state mics mic.now)
  pub goes : (first : M) → mics.follows first Open mic.before → mics.follows first (mic_course kept.end) mic.now
  pub takes : Takes pieces.before record { pieces = pieces.now; refused = told }
      record { numbers = kept.numbers; samples = kept.samples; refused = kept.refused } (chunks_of bytes)

-- The bytes of these frames were written to the speaker, or where it failed the first, with no write after one that
-- failed; the frames are the first of those that are shown, all of them where no read was refused, and else all before
-- the place of the read that was.
pub record IsPlayed {P : Type 0} (speakers : sink.Ghosts P) (speaker : Change P) (shows : List Frame → Type 0)
    (place : ℕ) (heard : PlayOutcome) : Type 0 where
  pub frames : List Frame
  pub first : (all : List Frame) → shows all → frames ≡ take (length frames) all
  pub whole : heard.refused ≡ None → (all : List Frame) → shows all → frames ≡ all
  pub given : (why : Refusal) → heard.refused ≡ Some why → length frames ≡ place
  pub writes : Writes (speaker_state speakers speaker.before) (speaker_state speakers speaker.now)
      record { frames = heard.frames; fault = heard.fault } frames
  pub exact : heard.frames ≡ writes.bytes / 4
  pub goes : (first : P) → speakers.follows first false speaker.before → speakers.follows first heard.fault speaker.now

-- The deeds of the recorder's seat: pieces, of which none was asked after one that was refused, and a reclaim after
-- each 64 pieces. At the end one more comes after the pieces since the last, unless no turn was left.
pub record AreRecorded (spent : Bool) (told : Option Refusal) (own : List Deed) : Type 0 where
  pub ends : EndsBy spent told (deeds_of asks_piece own)
  pub freed : AreFreed true 0 (entries_of own)
  pub freed_last : (unfreed 0 (entries_of own) ≡ 0) ⊎ (spent ≡ true)

-- They end by what the taker was refused.
pub record Recorded {M : Type 0} (mics : source.Ghosts M) (mic : Change M) (pieces : Change (List (List ℤ × ℕ)))
    (spent : Bool) (own : List Deed) (kept : RecordOutcome) : Type 0 where
  pub told : Option Refusal
  pub is : IsRecorded mics mic pieces told kept
  pub own_are : AreRecorded spent told own

-- The deeds of the player's seat are the reads, and then one that releases the pin, or none where no turn was left. The
-- reads go through the frames in order, up to one that gave fewer than it asked for, or to the refusal that is
-- returned. The last of them began at the place, so all that was read before a refusal was played.
pub record Played {P : Type 0} (speakers : sink.Ghosts P) (speaker : Change P) (shows : List Frame → Type 0) (pin : ℕ)
    (spent : Bool) (player : ℕ) (own : List Deed) (heard : PlayOutcome) : Type 0 where
  pub place : ℕ
  pub is : IsPlayed speakers speaker shows place heard
  pub reads : List Deed
  pub release : List Deed
  pub own_is : own ≡ reads ++ release
  pub in_order : ReadsTo spent pin heard.refused (reads_to heard.refused place) reads
  pub what : Result Reply Refusal
  pub released : OwnDeed spent player (Unpin pin) what release

-- the numbers of the pieces
abbrev pub piece_numbers : Option RecordOutcome → List ℕ
piece_numbers None = []
piece_numbers (Some kept) = kept.numbers
