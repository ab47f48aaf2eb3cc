-- What holds of the parts of every project that is opened, over any store.
use Rattle.project_state.specs.Meaning.{history_blocks}
use Rattle.editor_core.specs.{Parts.AreParts, declared.assembly.Parts.Parts}
use Rattle.editor_views.specs.Scans.{HaveOneLength}

-- A studio can be made of them, and each block has one length.
pub record IsValidParts (p : Parts) : Type 0 where
  pub parts : AreParts p
  pub one_length : HaveOneLength (history_blocks p.history.history)
