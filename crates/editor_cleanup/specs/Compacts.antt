-- What a `compact` answers and leaves.
use Rattle.std.specs.Prelude.{◌≡◌, ℕ, None, Result}
use Rattle.pcm_base.specs.{declared.answer.Reply.TheVariants.Packed, declared.command.Call.TheVariants.Line}
use Rattle.pcm_base.specs.{declared.command.Command.TheVariants.Compact, declared.refusal.Refusal.Refusal}
use Rattle.disk_model.specs.declared.store.Store.{Ghosts}
use Rattle.project_journal.specs.Gate.{EachSince}
use Rattle.record_body.specs.Saved.{Keeps}
use Rattle.editor_state.specs.{Core.Core, Studios.IsHeld, Studios.shown, Studios.studio_of, Took.Took, Took.quietly}
use Rattle.editor_state.specs.{Took.as_reply}

-- The journal is put into one header, in the other of its two files, and the file that it was in goes, as the call says
-- what it frees.
pub record Compacts {D : Type 0} (disk : Ghosts D) (old : Core D) (result : Result ℕ Refusal) (new : Core D)
    : Type 0 where
  pub took : Took disk old (quietly (Line Compact) (as_reply Packed result)) new
  -- at any moment each image keeps the project as it was
  pub any_moment : old.stopped ≡ None → IsHeld disk old
      → EachSince disk old.store new.store (λ c. Keeps c (shown (studio_of disk old)))
