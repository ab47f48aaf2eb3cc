-- What a studio stands for is within the bounds of the model.
use Rattle.pcm_base.specs.Pieces.{Sources}
use Rattle.disk_model.specs.declared.store.Store.{Ghosts}
use Rattle.model_laws.specs.Bounds.{IsBoundedStudio}
use Rattle.editor_state.specs.{Core.Core, Studios.studio_by}

-- whatever samples its blocks have
abbrev pub IsBounded : {D : Type 0} → Ghosts D → Core D → Type 0
IsBounded disk s = (src : Sources) → IsBoundedStudio (studio_by src disk s)
