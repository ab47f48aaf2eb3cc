-- The parts of a studio are within the bounds of the model.
use Rattle.editor_core.proofs.Common.{core_of}
use Rattle.editor_state.proofs.Images.ModelBounds.{bounded}
use Rattle.editor_core.proofs.studio.Studio.is_bounded.Goals as goal

pub returns : goal.returns
returns g c = bounded g.S.Store (core_of c.args.self.now) c.requires c.len-points.ensures.whole
