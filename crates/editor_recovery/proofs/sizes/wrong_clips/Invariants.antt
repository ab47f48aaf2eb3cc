-- What is left decides, and the old clips were searched.
use Rattle.editor_recovery.proofs.Common.{◌≡◌, drop, layout_blocks, size_in, AreSearched, first_wrong}
use Rattle.editor_recovery.proofs.sizes.wrong_clips.Given as goal

abbrev pub invariant-loop-i : goal.invariant-loop-i
invariant-loop-i l =
    (first_wrong (size_in l.sizes) l.found (layout_blocks (drop l.i l.clips))
    ≡ first_wrong (size_in l.sizes) l.fn.found (layout_blocks l.clips))
    × AreSearched (size_in l.sizes) l.found (layout_blocks l.olds)
