-- The plans of a run as a slice.
use Rattle.editor_core.proofs.Common.{subst}
use Rattle.editor_tracks.specs.RunEdits.{AllKeep}
use Rattle.editor_core.proofs.laying.kept_by.Goals as goal

pub returns : goal.returns
returns c = subst (AllKeep c.least_kept.result) c.as_slice.ensures c.least_kept.ensures
