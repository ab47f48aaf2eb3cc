-- Nothing is told.
use Rattle.std.proofs.Common.{refl}
use Rattle.edit_ports.specs.Told.{grown}
use Rattle.project_folder.proofs.file_sink.FileSinkSink.write.Goals as goal

pub returns-in-Ok-clause-bytes : goal.returns-in-Ok-clause-bytes
unfolding grown
returns-in-Ok-clause-bytes g c = refl
