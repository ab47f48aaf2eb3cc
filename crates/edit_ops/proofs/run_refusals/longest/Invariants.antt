-- What the loop of `longest` keeps.
use Rattle.edit_ops.proofs.Common.{◌≡◌, drop}
use Rattle.std.proofs.Common.{max}
use Rattle.edit_ops.specs.Runs as runs
use Rattle.edit_ops.proofs.run_refusals.longest.Given as goal

abbrev pub invariant-loop-t : goal.invariant-loop-t
invariant-loop-t l =
    max l.len (runs.longest_of (drop l.t-index (runs.layouts l.run))) ≡ runs.longest_of (runs.layouts l.run)
