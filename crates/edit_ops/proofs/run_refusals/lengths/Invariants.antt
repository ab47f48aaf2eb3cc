-- What the loop of `lengths` keeps.
use Rattle.edit_ops.proofs.Common.{◌≡◌, drop, length_limit, placed_length}
use Rattle.edit_ops.specs.Runs as runs
use Rattle.edit_ops.proofs.run_refusals.lengths.Given as goal

abbrev pub invariant-loop-i : goal.invariant-loop-i
invariant-loop-i l =
    length_limit (runs.lengths_of (placed_length l.placing l.at) (drop l.i l.clip) (drop l.i (runs.layouts l.run)))
    ≡ length_limit (runs.lengths_of (placed_length l.placing l.at) l.clip (runs.layouts l.run))
