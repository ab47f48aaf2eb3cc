-- What is left decides, and the old rows were searched.
use Rattle.editor_recovery.proofs.Common.{◌≡◌, drop, size_in, AreSearched, first_wrong}
use Rattle.block_sequence.specs.Rows.{flat}
use Rattle.editor_recovery.proofs.sizes.wrong_rows.Given as goal

abbrev pub invariant-loop-i : goal.invariant-loop-i
invariant-loop-i l =
    (first_wrong (size_in l.sizes) l.found (flat (drop l.i l.rows))
    ≡ first_wrong (size_in l.sizes) l.fn.found (flat l.rows))
    × AreSearched (size_in l.sizes) l.found (flat l.olds)
