-- What the thread of the speaker has done.
use Rattle.std.specs.Prelude.{◌≡◌, ℕ, ◌/◌, ◌-◌, ◌^◌, ◌≤◌, List, [], ◌∷◌, ◌++◌, length, take, min, Bool, true, false}
use Rattle.std.specs.Prelude.{Option}
use Rattle.pcm_base.specs.{declared.sound.Frame.Frame, Recordings.frame_bytes, Causes.Rose}
use Rattle.edit_ports.specs.Told.{grown}
use Rattle.play_ring.specs.Ends.{received, sounds, SameOut}
use Rattle.play_ring.specs.{declared.ends.PlayOut.PlayOut, declared.ends.Item.TheVariants.End}
use Rattle.player_threads.specs.{declared.speaker.Progress.Progress, declared.speaker.Spoken.Spoken}
use Rattle.edit_ports.specs.declared.sink.Sink as sink

-- a speaker at one time
pub record SpeakerState : Type 0 where
  -- the bytes that were written to it, where it tells them
  pub written : Option (List ℕ)
  -- how often it failed
  pub fault_count : ℕ

abbrev pub speaker_state : {P : Type 0} → sink.Ghosts P → P → SpeakerState
speaker_state speakers p = record { written = speakers.written p; fault_count = speakers.fault_count p }

-- what is told of some writing
pub record Written : Type 0 where
  -- how many whole frames were written, up to the greatest u64
  pub frames : ℕ
  -- the speaker failed
  pub fault : Bool

abbrev pub written_by : Progress → Written
written_by p = record { frames = p.frames; fault = p.fault }

-- The bytes of these frames were written: all of them, or where the speaker failed the first.
pub record Writes (old new : SpeakerState) (told : Written) (frames : List Frame) : Type 0 where
  pub bytes : ℕ
  pub within : bytes ≤ length (frame_bytes frames)
  pub written : new.written ≡ grown old.written (take bytes (frame_bytes frames))
  pub count_is : told.frames ≡ min (bytes / 4) (2 ^ 64 - 1)
  pub all : told.fault ≡ false → (bytes ≡ length (frame_bytes frames)) × (new.fault_count ≡ old.fault_count)
  pub cause : told.fault ≡ true → Rose old.fault_count new.fault_count

-- Frames and then the end mark were received, and the bytes of the frames written to a speaker, with no write after one
-- that failed.
pub record Speaks {P : Type 0} (speakers : sink.Ghosts P) (output : PlayOut) (speaker : P) (r : Spoken P)
    : Type 0 where
  pub frames : List Frame
  pub received_is : received r.output ≡ sounds frames ++ End ∷ []
  pub writes : Writes (speaker_state speakers speaker) (speaker_state speakers r.speaker)
      record { frames = r.frames; fault = r.fault } frames
  pub goes : (first : P) → speakers.follows first false speaker → speakers.follows first r.fault r.speaker
  pub ring : SameOut output r.output
