-- There are as many samples as fit the buffer, or fewer.
use Rattle.std.proofs.Common.{◌≤◌, ◌-◌, length}
use Rattle.project_folder.proofs.plain.read_samples.Given as goal

abbrev pub invariant-buffers : goal.invariant-buffers
invariant-buffers g l = l.done ≤ length l.out

abbrev pub decreases-buffers : goal.decreases-buffers
decreases-buffers g l = length l.initial.out - l.done
