-- The blocks so far are whole, and nothing changed.
use Rattle.editor_recovery.proofs.Common.{take, core_of}
use Rattle.editor_recovery.proofs.Checked.{SoFar}
use Rattle.editor_recovery.proofs.checking.scan_all.Given as goal

abbrev pub invariant-loop-i : goal.invariant-loop-i
invariant-loop-i g l = SoFar g.S.Store (core_of l.fn.studio) (take l.i l.blocks) (core_of l.studio)
