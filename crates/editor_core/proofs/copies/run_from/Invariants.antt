-- The layouts so far.
use Rattle.editor_core.proofs.Common.{◌≡◌, take, layouts, run_of}
use Rattle.editor_core.proofs.copies.run_from.Given as goal

abbrev pub invariant-loop-i : goal.invariant-loop-i
invariant-loop-i l = layouts l.run.items ≡ run_of l.id (take l.i l.point)
