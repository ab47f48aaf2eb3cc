-- What the pins of a run show.
use Rattle.std.specs.Prelude.{◌≡◌, ℕ, ◌==◌, if◌then◌else◌, Bool, true, false, List, [], ◌∷◌, Option, Some, None, Result}
use Rattle.std.specs.Prelude.{Ok, Err}
use Rattle.pcm_base.specs.{declared.answer.Reply.Reply, declared.command.Call.Call, declared.entry.Entry.Entry}
use Rattle.pcm_base.specs.{declared.entry.SoundMove.SoundMove, declared.refusal.Refusal.Refusal}
use Rattle.pcm_base.specs.{declared.sound.Frame.Frame, Cells.Project, Mix.mix_of, Run.result_of, Run.told_state}
use Rattle.pcm_base.specs.{State.State, State.current, Step.after}
use Rattle.pcm_base.specs.declared.answer.Reply.TheVariants as reply
use Rattle.pcm_base.specs.declared.command.Call.TheVariants as call

-- the state after a call that was answered so; a refusal changes nothing that a script can see
abbrev pub after_what : ℕ → State → Call → Result Reply Refusal → SoundMove → State
after_what rate s call (Ok r) sound = told_state r (after (record { rate = rate; sound = sound.before }) s call)
after_what rate s call (Err why) sound = s

abbrev pub after_entry : ℕ → State → Entry → State
after_entry rate s e = after_what rate s e.call (result_of e.reply) e.sound

-- whether a reply tells this number of a new pin
abbrev pub tells_pin : Reply → ℕ → Bool
tells_pin reply.Done pin = false
tells_pin reply.Copied pin = false
tells_pin (reply.Cells cells) pin = false
tells_pin (reply.Frames frames) pin = false
tells_pin (reply.Columns columns) pin = false
tells_pin (reply.Tracks tracks) pin = false
tells_pin (reply.Freed count) pin = false
tells_pin (reply.Packed bytes) pin = false
tells_pin (reply.Purged n) pin = false
tells_pin (reply.Wrote bytes) pin = false
tells_pin (reply.Pinned number) pin = number == pin
tells_pin (reply.Length frames) pin = false
tells_pin (reply.Loaded tracks) pin = false
tells_pin (reply.Refused why) pin = false

-- whether a call made the pin of this number
abbrev pub makes_pin : Call → Reply → ℕ → Bool
makes_pin (call.Line c) r pin = false
makes_pin (call.Piece track tag samples) r pin = false
makes_pin call.Pin r pin = tells_pin r pin
makes_pin (call.PinLen number) r pin = false
makes_pin (call.ReadPin number from count) r pin = false
makes_pin (call.LoadPin number from count) r pin = false
makes_pin (call.Unpin number) r pin = false

abbrev pub goes_with : Result Reply Refusal → ℕ → ℕ → Bool
goes_with (Ok r) number pin = number == pin
goes_with (Err why) number pin = false

-- and whether it let that pin go
abbrev pub drops_pin : Call → Result Reply Refusal → ℕ → Bool
drops_pin (call.Line c) what pin = false
drops_pin (call.Piece track tag samples) what pin = false
drops_pin call.Pin what pin = false
drops_pin (call.PinLen number) what pin = false
drops_pin (call.ReadPin number from count) what pin = false
drops_pin (call.LoadPin number from count) what pin = false
drops_pin (call.Unpin number) what pin = goes_with what number pin

-- whether the pin was made in the run
abbrev pub is_made : ℕ → List Entry → Bool
is_made pin [] = false
is_made pin (e ∷ es) = if makes_pin e.call e.reply pin then true else is_made pin es

-- nobody let the pin go
abbrev pub StaysHeld : ℕ → List Entry → Type 0
StaysHeld pin [] = Unit {0}
StaysHeld pin (e ∷ es) = (drops_pin e.call (result_of e.reply) pin ≡ false) × StaysHeld pin es

-- the frames that the pin of this number shows, where it was made in the run: the mix of the project that was current
-- then
abbrev pub pin_frames : ℕ → State → List Entry → ℕ → Option (List Frame)
pin_frames rate s [] pin = None
pin_frames rate s (e ∷ es) pin =
    if makes_pin e.call e.reply pin then Some (mix_of (current s)) else pin_frames rate (after_entry rate s e) es pin

-- the pin shows these frames, in this state
pub record ShowsPin (s : State) (pin : ℕ) (frames : List Frame) : Type 0 where
  pub project : Project
  pub there : s.pins pin ≡ Some project
  pub shows : frames ≡ mix_of project
