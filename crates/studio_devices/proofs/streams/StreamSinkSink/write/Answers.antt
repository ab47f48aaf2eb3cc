-- Nothing is told.
use Rattle.std.proofs.Common.{refl}
use Rattle.edit_ports.specs.Told.{grown}
use Rattle.studio_devices.proofs.streams.StreamSinkSink.write.Goals as goal

pub returns-then-count-gt0-clause-bytes : goal.returns-then-count-gt0-clause-bytes
unfolding grown
returns-then-count-gt0-clause-bytes g c = refl
