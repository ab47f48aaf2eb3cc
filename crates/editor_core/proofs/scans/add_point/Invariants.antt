-- The blocks of the tracks so far.
use Rattle.editor_core.proofs.Common.{◌≡◌, ◌++◌, take, point_blocks}
use Rattle.editor_core.proofs.scans.add_point.Given as goal

abbrev pub invariant-loop-i : goal.invariant-loop-i
invariant-loop-i l = l.blocks.items ≡ l.fn.blocks.items ++ point_blocks (take l.i l.point)
