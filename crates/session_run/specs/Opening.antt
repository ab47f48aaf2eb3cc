-- A project that was opened, or was not.
use Rattle.std.specs.Prelude.{◌≡◌, IsTrue, Ok, Result}
use Rattle.disk_model.specs.{Disk.StaysStep, Frames.Changed, declared.store.Store.Ghosts}
use Rattle.project_journal.specs.Gate.{EachNow}
use Rattle.record_body.specs.Saved.{Keeps}
use Rattle.editor_state.specs.{Core.Core, Studios.IsHeld, Studios.IsStudio, Studios.shown, Studios.studio_of}
use Rattle.editor_recovery.specs.{declared.fault.OpenFault.OpenFault, Causes.Causes, Found.Found, Found.IsNew}
use Rattle.editor_recovery.specs.{Found.found_by, Honest.IsHonest, Honest.OpensHonest, Opening.Opens}

-- What an opening does to a store, whatever it answers: it writes nothing, and each image at any moment of it is one
-- that the store could already leave.
pub record Looks {D : Type 0} (disk : Ghosts D) (old new : D) (answer : Result Found OpenFault) : Type 0 where
  -- on a store that tells its bytes it answers what stands there
  pub opens : IsTrue (disk.tells old) → Opens (disk.reads old) answer
  pub honest : IsHonest disk old → OpensHonest disk old new answer
  pub cause : Causes disk old new answer
  pub reads : disk.reads new ≡ disk.reads old
  pub changed : Changed disk StaysStep (record { files = 0; bytes = 0; calls = 2 }) old new
  pub stays_honest : IsHonest disk old → IsHonest disk new

-- A studio was made of the project that the store keeps.
pub record OpensTo {D : Type 0} (disk : Ghosts D) (store : D) (start : Core D) : Type 0 where
  pub looks : Looks disk store start.store (Ok (found_by start))
  pub studio : IsStudio disk start
  pub fresh : IsNew start
  -- an honest disk holds it, and each image keeps what it shows
  pub held : IsHonest disk store → IsHeld disk start
  pub keeps : IsHonest disk store → EachNow disk start.store (λ c. Keeps c (shown (studio_of disk start)))
