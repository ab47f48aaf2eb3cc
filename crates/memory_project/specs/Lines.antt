-- Lines that nothing refuses, carried out on a disk that has room for them.
use Rattle.std.specs.Prelude.{◌≡◌, ℕ, ◌+◌, ◌*◌, List, [], ◌∷◌, length, Result, IfErr}
use Rattle.std.specs.List.{AllByRecursion}
use Rattle.pcm_base.specs.{declared.answer.Reply.Reply, declared.command.Call.TheVariants.Line}
use Rattle.pcm_base.specs.{declared.command.Command.Command, declared.refusal.Refusal.Refusal, Form.IsInForm}
use Rattle.pcm_base.specs.{Run.CarriesOut, Studio.Studio}
use Rattle.disk_model.specs.{Frames.asked, Room.Room, Room.together, declared.store.Store.Ghosts}
use Rattle.sample_block.specs.Spelling.{size_of}
use Rattle.envelope_view.specs.Answers.{IsUndamaged}
use Rattle.editor_state.specs.{Applied.EndsAlike, Core.Core, Studios.IsHeld, Studios.IsStudio, Studios.studio_of}
use Rattle.editor_state.specs.{Took.Took, Took.quietly, Took.silent}
use Rattle.script_gen.specs.{Room.EachNeedsAtMost, Room.NeedsAtMost, Validity.AreValid, Validity.IsValid}
use Rattle.memory_project.specs.Memory.{HasAsked, HasRoom, no_room}
use Rattle.pcm_base.specs.declared.command.Command.TheVariants as command

-- the kinds of line that the script of a number has
abbrev pub IsOfScript : Command → Type 0
IsOfScript command.Track = Unit {0}
IsOfScript (command.Ramp id at n start step) = Unit {0}
IsOfScript (command.Delete id from to) = Unit {0}
IsOfScript (command.Gain id from to gain) = Unit {0}
IsOfScript (command.Silence id from to) = Unit {0}
IsOfScript (command.Copy id n from to) = Unit {0}
IsOfScript (command.Paste id at) = Unit {0}
IsOfScript command.Undo = Unit {0}
IsOfScript command.Redo = Unit {0}
IsOfScript command.Tracks = Unit {0}
IsOfScript (command.Envelope id from to columns) = Unit {0}
IsOfScript _ = ⊥

abbrev pub IsRamp : Command → Type 0
IsRamp (command.Ramp id at n start step) = Unit {0}
IsRamp _ = ⊥

-- ---- one line

-- what it may ask of the disk: 11 blocks and one that is begun in vain, and its record
abbrev pub line_room : Room
line_room = record { files = 12; bytes = 6878 + 12 * size_of 512; calls = 38 }

-- A line was asked, by the call that is its own.
pub record Asked {D : Type 0} (disk : Ghosts D) (old : Core D) (c : Command) (answer : Result (Unit {0}) Refusal)
    (new : Core D) : Type 0 where
  pub told : Result Reply Refusal
  pub took : Took disk old (quietly (Line c) told) new
  pub ends : EndsAlike told answer
  pub valid : IsHeld disk old → IfErr told IsUndamaged

-- A studio to which a line may come: nothing refuses it, and the disk has room for it.
pub record MayCome {D : Type 0} (disk : Ghosts D) (s : Core D) (c : Command) : Type 0 where
  pub studio : IsStudio disk s
  pub held : IsHeld disk s
  pub size : s.block_size ≡ 512
  pub kind : IsOfScript c
  pub form : IsInForm c
  pub valid : IsValid (studio_of disk s) c
  pub few : NeedsAtMost (studio_of disk s) c 11 6872
  pub room : HasRoom disk s.store line_room

-- The line was carried out. No more was asked of the disk than its room, and what room there was beyond that is there
-- still.
pub record Went {D : Type 0} (disk : Ghosts D) (old : Core D) (c : Command) (new : Core D) : Type 0 where
  pub studio : IsStudio disk new
  pub held : IsHeld disk new
  pub reply : Reply
  pub step : CarriesOut (studio_of disk old) (Line c) silent reply (studio_of disk new)
  pub room : (more : Room) → HasRoom disk old.store (together line_room more) → HasRoom disk new.store more
  pub asked_more : HasAsked disk new.store (together (asked disk old.store) line_room)

-- ---- many lines

-- this many times the room of a line
abbrev pub room_for : ℕ → Room
room_for n = record {
  files = n * line_room.files;
  bytes = n * line_room.bytes;
  calls = n * line_room.calls;
}

-- A studio to which these lines may come, one after another.
pub record MayRun {D : Type 0} (disk : Ghosts D) (s : Core D) (cs : List Command) : Type 0 where
  pub studio : IsStudio disk s
  pub held : IsHeld disk s
  pub size : s.block_size ≡ 512
  pub kinds : AllByRecursion IsOfScript cs
  pub valid : AreValid (studio_of disk s) cs
  pub few : EachNeedsAtMost (studio_of disk s) cs 11 6872
  pub room : HasRoom disk s.store (room_for (length cs))

-- The lines are carried out in turn, and none is refused.
abbrev pub AreCarriedOut : Studio → List Command → Studio → Type 0
AreCarriedOut t [] u = u ≡ t
AreCarriedOut t (c ∷ cs) u =
    (mid : Studio) × (reply : Reply) × CarriesOut t (Line c) silent reply mid × AreCarriedOut mid cs u

-- The lines were carried out, and the disk had room for them.
pub record RanLines {D : Type 0} (disk : Ghosts D) (old : Core D) (cs : List Command) (new : Core D) : Type 0 where
  pub studio : IsStudio disk new
  pub held : IsHeld disk new
  pub run : AreCarriedOut (studio_of disk old) cs (studio_of disk new)
  pub room : HasRoom disk new.store no_room
  pub asked_more : HasAsked disk new.store (together (asked disk old.store) (room_for (length cs)))
