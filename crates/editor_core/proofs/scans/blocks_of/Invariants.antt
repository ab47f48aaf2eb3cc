-- The blocks of the points so far.
use Rattle.editor_core.proofs.Common.{◌≡◌, take, points_of, point_blocks}
use Rattle.std.proofs.Common.{flat_map}
use Rattle.editor_core.proofs.scans.blocks_of.Given as goal

abbrev pub invariant-loop-i : goal.invariant-loop-i
invariant-loop-i l = l.blocks.items ≡ flat_map point_blocks (take l.i (points_of l.history.history))
