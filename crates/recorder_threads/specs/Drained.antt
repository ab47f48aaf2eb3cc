-- What the thread of the track has done.
use Rattle.std.specs.Prelude.{◌≡◌, ◌⊎◌, ℕ, ◌<◌, ℤ, false, List, ◌++◌, length, take, sum_by, Option, Some, None, is_some}
use Rattle.std.specs.List.{zip}
use Rattle.pcm_base.specs.{Recordings.recording, declared.refusal.Refusal.Refusal}
use Rattle.pcm_base.specs.{declared.refusal.Refusal.TheVariants.NoMemory}
use Rattle.record_ring.specs.{Ends.received, Ends.SameOut, declared.ends.RecordOut.RecordOut}
use Rattle.recorder_threads.specs.{declared.track.Drained.Drained, declared.track.Tally.Tally}
use Rattle.edit_ports.specs.declared.pieces.PieceTaker as taker

-- a taker of pieces at one time
pub record TakerState : Type 0 where
  -- the pieces that it took, each with its number
  pub pieces : List (List ℤ × ℕ)
  -- its first refusal
  pub refused : Option Refusal

abbrev pub taker_state : {T : Type 0} → taker.Ghosts T → T → TakerState
taker_state takers t = record { pieces = takers.pieces t; refused = takers.refused t }

-- what is told of the pieces that were taken
pub record Taken : Type 0 where
  -- their numbers
  pub numbers : List ℕ
  -- how many samples they have together
  pub samples : ℕ
  -- why no more were taken, if so
  pub refused : Option Refusal

abbrev pub taken_by : Tally → Taken
taken_by t = record { numbers = t.numbers.items; samples = t.samples; refused = t.refused }

-- The taker had the pieces `before`, and then of these chunks the first were taken, in order and each once, with the
-- numbers that are told, up to the first refusal. One that the taker did not answer is want of memory.
pub record Takes (before : List (List ℤ × ℕ)) (taker : TakerState) (told : Taken) (chunks : List (List ℤ))
    : Type 0 where
  pub kept : taker.pieces ≡ before ++ zip (take (length told.numbers) chunks) told.numbers
  pub samples_is : told.samples ≡ sum_by length (take (length told.numbers) chunks)
  pub all : told.refused ≡ None → (length told.numbers ≡ length chunks) × (taker.refused ≡ None)
  pub some : (reason : Refusal) → told.refused ≡ Some reason → (length told.numbers < length chunks)
      × ((taker.refused ≡ Some reason) ⊎ ((reason ≡ NoMemory) × (taker.refused ≡ None)))

-- A whole recording was received, and its chunks taken, with no offer after one that was refused.
pub record Drains {T : Type 0} (takers : taker.Ghosts T) (output : RecordOut) (taker : T) (r : Drained T)
    : Type 0 where
  pub chunks : List (List ℤ)
  pub received_is : received r.output ≡ recording chunks
  pub takes : Takes (takers.pieces taker) (taker_state takers r.taker)
      record { numbers = r.numbers; samples = r.samples; refused = r.refused } chunks
  pub goes : (first : T) → takers.follows first false taker
      → takers.follows first (is_some (takers.refused r.taker)) r.taker
  pub ring : SameOut output r.output
