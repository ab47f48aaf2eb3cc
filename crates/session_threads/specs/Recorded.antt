-- What a recording has done.
use Rattle.std.specs.Prelude.{◌≡◌, ℕ, false, List, is_some}
use Rattle.pcm_base.specs.Recordings.{chunks_of}
use Rattle.edit_ports.specs.Told.{Open, preceded}
use Rattle.recorder_threads.specs.{Blocks.mic_state, Captured.IsStoppedBy, Captured.mic_course, Drained.Takes}
use Rattle.recorder_threads.specs.{Drained.taker_state}
use Rattle.session_threads.specs.declared.record.Recorded.{Recorded}
use Rattle.edit_ports.specs.declared.source.Source as source
use Rattle.edit_ports.specs.declared.pieces.PieceTaker as taker

-- These bytes were read of the microphone, with no read after its end or after one that failed; the pieces that were
-- taken are their chunks, up to the first refusal, with no offer after it.
pub record Records {M T : Type 0} (mics : source.Ghosts M) (takers : taker.Ghosts T) (microphone : M) (taker : T)
    (r : Recorded M T) : Type 0 where
  pub bytes : List ℕ
  pub read : mics.left microphone ≡ preceded bytes (mics.left r.mic)
  pub stopped : IsStoppedBy r.end bytes (mic_state mics microphone) (mic_state mics r.mic)
  pub takes : Takes (takers.pieces taker) (taker_state takers r.taker)
      record { numbers = r.numbers; samples = r.samples; refused = r.refused } (chunks_of bytes)
  pub mic_goes : (first : M) → mics.follows first Open microphone → mics.follows first (mic_course r.end) r.mic
  pub taker_goes : (first : T) → takers.follows first false taker
      → takers.follows first (is_some (takers.refused r.taker)) r.taker
