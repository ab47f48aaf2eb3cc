-- What a playback has done.
use Rattle.std.specs.Prelude.{◌≡◌, ◌↔◌, ℕ, ◌/◌, false, List, length, take, Some, None}
use Rattle.pcm_base.specs.{declared.refusal.Refusal.Refusal, declared.sound.Frame.Frame}
use Rattle.edit_ports.specs.Answers.{NextAt}
use Rattle.player_threads.specs.{Filled.reads_to, Spoken.Writes, Spoken.speaker_state}
use Rattle.session_threads.specs.declared.play.Played.{Played}
use Rattle.edit_ports.specs.declared.frames.FrameGiver as giver
use Rattle.edit_ports.specs.declared.sink.Sink as sink

-- The first frames of the mix were played, all of them where nothing was refused, and else all that were read before,
-- with no write after one that failed. The giver was read from its first frame on, each time from where the read before
-- ended, and not after the last, which began at the place. It shows what it showed, and the refusal that is told is its
-- own.
pub record Plays {V P : Type 0} (givers : giver.Ghosts V) (speakers : sink.Ghosts P) (mix : V) (speaker : P)
    (r : Played V P) : Type 0 where
  pub frames : List Frame
  pub first : (all : List Frame) → givers.shows mix all → frames ≡ take (length frames) all
  pub whole : r.refused ≡ None → (all : List Frame) → givers.shows mix all → frames ≡ all
  pub place : ℕ
  pub given : (why : Refusal) → r.refused ≡ Some why → length frames ≡ place
  pub writes : Writes (speaker_state speakers speaker) (speaker_state speakers r.speaker)
      record { frames = r.frames; fault = r.fault } frames
  pub exact : r.frames ≡ writes.bytes / 4
  pub giver_shows : (all : List Frame) → givers.shows mix all ↔ givers.shows r.giver all
  pub cause : givers.refused r.giver ≡ r.refused
  pub giver_goes : (start : V) → givers.follows start (NextAt 0) mix
      → givers.follows start (reads_to r.refused place) r.giver
  pub speaker_goes : (start : P) → speakers.follows start false speaker → speakers.follows start r.fault r.speaker
