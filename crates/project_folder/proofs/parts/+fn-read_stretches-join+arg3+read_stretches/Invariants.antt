use Rattle.std.proofs.Common.{◌+◌, ◌*◌, length}
use Rattle.project_folder.proofs.parts.+fn-read_stretches-join+arg3+read_stretches.Given as goal

abbrev pub decreases-join+arg3 : goal.decreases-join+arg3
decreases-join+arg3 g l = 2 * length l.back.now + 1

abbrev pub decreases-read_stretches : goal.decreases-read_stretches
decreases-read_stretches g l = 2 * length l.out.now
