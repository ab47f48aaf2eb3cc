use Rattle.std.proofs.Common.{length, ◌-◌, ◌≤◌}
use Rattle.project_folder.proofs.plain.read_full.Given as goal

-- what was read fits in the buffer
abbrev pub invariant-loop-count : goal.invariant-loop-count
invariant-loop-count g l = l.count ≤ length l.initial.buf

abbrev pub decreases-loop-count : goal.decreases-loop-count
decreases-loop-count g l = length l.initial.buf - l.count
