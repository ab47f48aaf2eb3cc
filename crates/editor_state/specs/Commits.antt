-- Calls that are commits.
use Rattle.std.specs.Prelude.{◌≡◌, ℕ, suc, IsTrue, Option}
use Rattle.pcm_base.specs.Counters.{commits_of, tracks_of, pins_of}
use Rattle.pcm_base.specs.Run.{Leaves, may_change, stop_of, stop_test}
use Rattle.pcm_base.specs.{declared.answer.Reply.TheVariants.Done, declared.command.Call.Call}
use Rattle.pcm_base.specs.{declared.entry.SoundMove.SoundMove, State.State, Step.MayAnswer, Step.sound_after}
use Rattle.pcm_base.specs.Studio as model

-- A call that is this many commits and one, and what it does but for its edit: it gives this many track ids, and leaves
-- the sound that it names as it was. Of each call that is one these are all `refl`.
pub record IsCommitCall (c : Call) (sound : SoundMove) (tracks more : ℕ) : Type 0 where
  pub many : commits_of c ≡ suc more
  pub no_pin : pins_of c ≡ 0
  pub tracks_is : (rate : ℕ) → tracks_of (record { rate = rate; sound = sound.before }) c ≡ tracks
  pub stops : (stopped : Option ℕ) → stop_test stopped c ≡ stop_of stopped
  pub changes : IsTrue (may_change c)
  pub leaves : (t : model.Studio) → Leaves t c sound
  pub heard : (rate : ℕ) (s : State) → sound.after ≡ sound_after (record { rate = rate; sound = sound.before }) s c
  pub quiet : sound.after ≡ sound.before
  pub done : (rate : ℕ) (s : State) → MayAnswer (record { rate = rate; sound = sound.before }) s c Done
