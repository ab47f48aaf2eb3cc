-- What the calls of a studio leave of an honest disk.
use Rattle.std.specs.Prelude.{◌≡◌, ◌⊎◌, IsTrue, IsSome, None}
use Rattle.disk_model.specs.{Disk.Files, declared.store.Store.Ghosts}
use Rattle.project_journal.specs.Gate.{EachNow, EachSince}
use Rattle.record_body.specs.Saved.{Opened, Keeps}
use Rattle.editor_state.specs.{Core.Core, Studios.IsHeld, Studios.IsStudio, Took.Exchange, Took.Took}
use Rattle.editor_recovery.specs.{Files.NoForeign, Honest.IsHonest, Standing.HasNone}

-- what an honest disk asks of one image: no foreign file, and no project or one that it keeps
pub record IsHonestImage (files : Files) : Type 0 where
  pub foreign : NoForeign files
  pub whole : HasNone files ⊎ ((found : Opened) × Keeps files found)

-- A disk that was honest before a call stays so where the studio goes on, and where it had stopped before. At any
-- moment of a call that found the studio going each image is one of an honest disk, also where the call stopped it.
pub record StaysHonest {D : Type 0} (disk : Ghosts D) (old new : Core D) : Type 0 where
  pub going : new.stopped ≡ None → IsHonest disk new.store
  pub rested : IsSome old.stopped → IsHonest disk new.store
  pub any_moment : old.stopped ≡ None → EachSince disk old.store new.store IsHonestImage

-- Every call of a studio that the disk holds.
abbrev pub CallsStayHonest : {D : Type 0} → Ghosts D → Type 0
CallsStayHonest {D = D} disk =
    (old new : Core D) (exchange : Exchange) → IsStudio disk old → IsHeld disk old → IsHonest disk old.store
    → Took disk old exchange new → StaysHonest disk old new

-- A disk that keeps to the model, and may leave one such image and no other, is honest: a start after a stop finds it
-- so.
abbrev pub ImagesAreHonest : {D : Type 0} → Ghosts D → Type 0
ImagesAreHonest {D = D} disk =
    (store : D) (files : Files) → IsHonestImage files → IsTrue (disk.keeps_model store)
    → EachNow disk store (λ c. c ≡ files) → IsHonest disk store
