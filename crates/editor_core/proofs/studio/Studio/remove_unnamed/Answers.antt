-- By what the cache and the disk say.
use Rattle.editor_core.proofs.Common.{refl}
use Rattle.editor_core.proofs.studio.Studio.remove_unnamed.Goals as goal

pub returns : goal.returns
returns g c = record {
  fields = refl;
  removed = c.remove.ensures.gone;
  changed = c.remove.ensures.changed;
  faults = c.remove.ensures.faults;
  read_faults = c.remove.ensures.read_faults;
  without = c.remove.ensures.dropped;
}
