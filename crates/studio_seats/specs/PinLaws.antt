-- A pin stays as it was made.
use Rattle.std.specs.Prelude.{◌≡◌, ℕ, List, length, take, drop, Some, Ok}
use Rattle.pcm_base.specs.declared.answer.Reply.TheVariants.{Frames, Length, Loaded}
use Rattle.pcm_base.specs.declared.command.Call.TheVariants.{LoadPin, PinLen, ReadPin}
use Rattle.pcm_base.specs.{declared.answer.Reply.Reply, declared.entry.Entry.Entry, declared.entry.SoundMove.SoundMove}
use Rattle.pcm_base.specs.{declared.sound.Frame.Frame, Cells.Project, Mix.loaded_of, Mix.mix_of, Run.Answers, Run.Run}
use Rattle.studio_seats.specs.Pins.{StaysHeld, ShowsPin, pin_frames}
use Rattle.pcm_base.specs.Studio as model

-- In a run a pin was made, and nobody let it go: then it shows the mix of the project that was current where it was
-- made, a length that is answered is that of the mix, and frames that are answered are those of the mix from the place
-- on. Tracks that are answered are those of a project with this mix.
pub record PinStays (u : model.Studio) (pin : ℕ) (frames : List Frame) : Type 0 where
  pub shows : ShowsPin u.state pin frames
  pub len : (sound : SoundMove) (r : Reply) (after : model.Studio) → Answers u (PinLen pin) sound (Ok r) after
      → r ≡ Length (length frames)
  pub reads : (from count : ℕ) (sound : SoundMove) (r : Reply) (after : model.Studio)
      → Answers u (ReadPin pin from count) sound (Ok r) after
      → r ≡ Frames (take count (drop from frames))
  pub loads : (from count : ℕ) (sound : SoundMove) (r : Reply) (after : model.Studio)
      → Answers u (LoadPin pin from count) sound (Ok r) after
      → (project : Project) × (frames ≡ mix_of project) × (r ≡ Loaded (loaded_of from count project))

abbrev pub PinsStay : Type 0
PinsStay = (t u : model.Studio) (es : List Entry) (pin : ℕ) (frames : List Frame) → Run t es u
    → pin_frames t.rate t.state es pin ≡ Some frames → StaysHeld pin es → PinStays u pin frames
