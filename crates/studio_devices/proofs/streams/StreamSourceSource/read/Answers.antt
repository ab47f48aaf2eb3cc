-- Nothing is told.
use Rattle.std.proofs.Common.{refl}
use Rattle.edit_ports.specs.Told.{preceded}
use Rattle.studio_devices.proofs.streams.StreamSourceSource.read.Goals as goal

pub returns-in-Ok-clause-bytes : goal.returns-in-Ok-clause-bytes
unfolding preceded
returns-in-Ok-clause-bytes g c = refl
