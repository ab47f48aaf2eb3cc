-- So far all references are the same.
use Rattle.editor_recovery.proofs.Common.{◌≡◌, take}
use Rattle.editor_recovery.proofs.sizes.is_same.Given as goal

abbrev pub invariant-loop-i : goal.invariant-loop-i
invariant-loop-i l = take l.i l.a ≡ take l.i l.b
