-- What is left decides, and the point before was searched.
use Rattle.editor_recovery.proofs.Common.{◌≡◌, drop, point_blocks, size_in, AreSearched, first_wrong}
use Rattle.editor_recovery.proofs.sizes.wrong_point.Given as goal

abbrev pub invariant-loop-i : goal.invariant-loop-i
invariant-loop-i l =
    (first_wrong (size_in l.sizes) l.found (point_blocks (drop l.i l.point))
    ≡ first_wrong (size_in l.sizes) l.fn.found (point_blocks l.point))
    × AreSearched (size_in l.sizes) l.found (point_blocks l.before)
