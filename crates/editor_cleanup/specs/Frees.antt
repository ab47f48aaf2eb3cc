-- What a reclaim answers and leaves.
use Rattle.std.specs.Prelude.{ℕ, Option, List, Result}
use Rattle.pcm_base.specs.{declared.answer.Reply.TheVariants.Freed, declared.command.Call.TheVariants.Line}
use Rattle.pcm_base.specs.{declared.command.Command.TheVariants.Reclaim, declared.refusal.Refusal.Refusal}
use Rattle.disk_model.specs.declared.store.Store.{Ghosts}
use Rattle.editor_state.specs.{Core.Core, Took.Took, Took.freeing, Took.as_reply}

-- A reclaim: which files it removes, and how many it answers, is what its call frees.
pub record Reclaims {D : Type 0} (disk : Ghosts D) (old : Core D) (limit : Option ℕ) (result : Result ℕ Refusal)
    (new : Core D) : Type 0 where
  -- the ids of the blocks whose files went
  pub ids : List ℕ
  pub took : Took disk old (freeing (Line (Reclaim limit)) (as_reply Freed result) ids) new
