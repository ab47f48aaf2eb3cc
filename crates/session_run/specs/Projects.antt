-- Projects made, listed and checked.
use Rattle.std.specs.Prelude.{◌≡◌, ◌⊎◌, ℕ, IsTrue, true, List, [], length, map, Result, Err, MatchResult, OnOk, None}
use Rattle.pcm_base.specs.{declared.sound.TrackLine.TrackLine, State.current, Step.line_of_track}
use Rattle.disk_model.specs.{Disk.SameElsewhere, Frames.Changed, declared.store.Store.Ghosts}
use Rattle.project_journal.specs.{Gate.EachNow, Gate.EachSince, Gate.IsDurable, Rooms.create_room}
use Rattle.record_body.specs.Saved.{Keeps}
use Rattle.call_words.specs.declared.asked.NewProject.{NewProject}
use Rattle.editor_state.specs.{Core.Core, Studios.IsHeld, Studios.studio_of}
use Rattle.editor_recovery.specs.Creating.{Creates, LeavesRefused, new_opened}
use Rattle.editor_recovery.specs.{declared.fault.OpenFault.OpenFault, Causes.Causes, Checking.ChecksStudio}
use Rattle.editor_recovery.specs.{Honest.IsHonest, Standing.HasNone}
use Rattle.script_text.specs.declared.project.ProjectLines.{ProjectLines}
use Rattle.script_text.specs.Project.{checked_text, made_text, project_text}
use Rattle.session_run.specs.{declared.ending.Done.Done, Opening.Looks, Opening.OpensTo, Refused.IsDone}
use Rattle.session_run.specs.{Refused.IsRefused, Refused.call_fault_of, Streams.Prints, Streams.Streams}
use Rattle.script_text.specs.declared.call_fault.CallFault.TheVariants as call

-- What making a project does to a store.
pub record Created {D : Type 0} (disk : Ghosts D) (project : NewProject) (old new : D)
    (answer : Result (Unit {0}) OpenFault)
    : Type 0 where
  -- at any moment each image, but one that the store could already leave, has no project or keeps the new one
  pub any_moment : IsTrue (disk.tells old) → EachSince disk old new (λ c. disk.may_leave old (disk.clock old) c
      ⊎ (HasNone c ⊎ Keeps c (new_opened project.rate project.block_size project.depth)))
  -- after it the store and each image keep the new one
  pub made : IsTrue (disk.tells old) → OnOk answer
      (Keeps (disk.reads new) (new_opened project.rate project.block_size project.depth)
      × EachNow disk new (λ c. Keeps c (new_opened project.rate project.block_size project.depth)))
  pub answers : IsTrue (disk.tells old) → Creates (disk.reads old) answer
  pub honest : IsHonest disk old → IsHonest disk new
  pub durable : OnOk answer (IsDurable disk new 0)
  pub cause : Causes disk old new answer
  pub left : LeavesRefused disk old new answer
  pub changed : Changed disk (SameElsewhere 0) (create_room (disk.reads old 0)) old new

-- The word `new`.
pub record Makes {D : Type 0} (disk : Ghosts D) (project : NewProject) (store : D) (s : Streams) (done : Done D)
    : Type 0 where
  pub answer : Result (Unit {0}) OpenFault
  pub created : Created disk project store done.store answer
  pub said : MatchResult answer (λ _. Prints s made_text × IsDone 0 done)
      (λ fault. IsRefused (call_fault_of fault) s done)

-- a project was not opened
abbrev pub OpensNot : {D : Type 0} → Ghosts D → D → Streams → Done D → Type 0
OpensNot disk store s done = (fault : OpenFault) × Looks disk store done.store (Err fault)
    × IsRefused (call_fault_of fault) s done

-- what is told of a studio beside its tracks
abbrev pub lines_of : {D : Type 0} → Core D → ProjectLines
lines_of start = record {
  rate = start.rate;
  block_size = start.block_size;
  depth = start.history.depth;
  commit = start.commit_number;
  points = length start.history.points;
  cursor = start.history.cursor;
}

-- The project and its tracks were told.
pub record Listed {D : Type 0} (disk : Ghosts D) (start : Core D) (s : Streams) (done : Done D) : Type 0 where
  pub tracks : List TrackLine
  pub are : IsHeld disk start → tracks ≡ map line_of_track (current (studio_of disk start).state)
  pub printed : Prints s (project_text (lines_of start) tracks)
  pub status : done.status ≡ 0
  pub opened : done.opened ≡ true
  pub first : done.first_commit ≡ start.commit_number
  pub last : done.last_commit ≡ start.commit_number
  pub record_none : done.record_commit ≡ None
  pub commits : done.commits ≡ []
  pub pieces : done.pieces ≡ []

-- The word `list`.
abbrev pub Lists : {D : Type 0} → Ghosts D → D → Streams → Done D → Type 0
Lists {D} disk store s done =
    ((start : Core D) × OpensTo disk store start × (done.store ≡ start.store)
    × (Listed disk start s done ⊎ IsRefused call.NoMemory s done))
    ⊎ OpensNot disk store s done

-- The blocks of the project were checked.
pub record Checked {D : Type 0} (disk : Ghosts D) (store : D) (s : Streams) (done : Done D) : Type 0 where
  pub start : Core D
  pub final : Core D
  pub opens : OpensTo disk store start
  pub answer : Result ℕ OpenFault
  pub checks : ChecksStudio disk start answer final
  pub store_is : done.store ≡ final.store
  pub said : MatchResult answer (λ n. Prints s (checked_text n start.commit_number) × IsDone 0 done)
      (λ fault. IsRefused (call_fault_of fault) s done)

-- The word `check`.
abbrev pub Checks : {D : Type 0} → Ghosts D → D → Streams → Done D → Type 0
Checks disk store s done = Checked disk store s done ⊎ OpensNot disk store s done
