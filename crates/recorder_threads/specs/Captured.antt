-- What the thread of the microphone has done.
use Rattle.std.specs.Prelude.{◌≡◌, ℕ, ◌^◌, ◌<◌, ℤ, List, [], ◌∷◌, length, Option}
use Rattle.std.specs.Io.KnownBytes.{IsAtEnd}
use Rattle.pcm_base.specs.Recordings.{chunks_of, recording, numbered_part, numbered, IsOpen}
use Rattle.pcm_base.specs.{Parts.Part, Causes.Rose}
use Rattle.edit_ports.specs.Told.{Course, Faulted, Open, Over, preceded}
use Rattle.record_ring.specs.{Ends.sent, Ends.SameIn, declared.ends.RecordIn.RecordIn}
use Rattle.recorder_threads.specs.Blocks.{MicState, mic_state}
use Rattle.recorder_threads.specs.{declared.microphone.MicEnd.MicEnd, declared.microphone.Captured.Captured}
use Rattle.edit_ports.specs.declared.source.Source as source
use Rattle.recorder_threads.specs.declared.microphone.MicEnd.TheVariants as mic

-- by the bytes that were read, and by the microphone before and after
abbrev pub IsStoppedBy : MicEnd → List ℕ → MicState → MicState → Type 0
IsStoppedBy mic.End bytes old new =
    (length bytes < 2 ^ 33) × (new.fault_count ≡ old.fault_count) × IsAtEnd new.left
IsStoppedBy mic.Fault bytes old new = (length bytes < 2 ^ 33) × Rose old.fault_count new.fault_count
IsStoppedBy mic.Limit bytes old new = (length bytes ≡ 2 ^ 33) × (new.fault_count ≡ old.fault_count)

-- how its reads went
abbrev pub mic_course : MicEnd → Course
mic_course mic.End = Over
mic_course mic.Fault = Faulted
mic_course mic.Limit = Open

-- These bytes were read of a microphone, with no read after its end or after one that failed, their chunks were sent,
-- and then the end mark.
pub record Captures {M : Type 0} (mics : source.Ghosts M) (microphone : M) (input : RecordIn) (r : Captured M)
    : Type 0 where
  pub bytes : List ℕ
  pub read : mics.left microphone ≡ preceded bytes (mics.left r.mic)
  pub sent_is : sent r.input ≡ recording (chunks_of bytes)
  pub stopped : IsStoppedBy r.end bytes (mic_state mics microphone) (mic_state mics r.mic)
  pub goes : (first : M) → mics.follows first Open microphone → mics.follows first (mic_course r.end) r.mic
  pub ring : SameIn input r.input

-- the chunk of some samples, none where there are none
abbrev pub chunk_if : ℕ → List ℤ → List Part
chunk_if number [] = []
chunk_if number (s ∷ ss) = numbered_part number (s ∷ ss) ∷ []

-- these bytes were read so far, their chunks sent, and no end mark
pub record Reads (left left' : Option (List ℕ)) (sent : List Part) (bytes : List ℕ) : Type 0 where
  pub read : left ≡ preceded bytes left'
  pub sent_is : sent ≡ numbered 0 (chunks_of bytes)
  pub unended : IsOpen sent
