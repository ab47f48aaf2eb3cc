-- What the loop of `copy_each` keeps.
use Rattle.edit_ops.proofs.Common.{take}
use Rattle.edit_ops.specs.Runs as runs
use Rattle.edit_ops.proofs.runs.copy_each.Given as goal

abbrev pub invariant-loop-t : goal.invariant-loop-t
invariant-loop-t l = runs.AreCopies l.from l.to (take l.t-index (runs.layouts l.run)) l.out.items
