-- What is left decides, and the point before was searched.
use Rattle.editor_recovery.proofs.Common.{◌≡◌, ℕ, ◌+◌, List, None, Some, drop, slice_get, flat_map, points_of, Track}
use Rattle.editor_recovery.proofs.Common.{point_blocks, size_in, AreSearched, first_wrong}
use Rattle.editor_recovery.proofs.sizes.wrong_block.Given as goal

abbrev pub invariant-loop-i : goal.invariant-loop-i
invariant-loop-i l =
    (first_wrong (size_in l.sizes) l.found (flat_map (λ p. point_blocks p.0) (drop l.i l.history.history.points))
    ≡ first_wrong (size_in l.sizes) None (flat_map (λ p. point_blocks p.0) l.history.history.points))
    × ((k : ℕ) (p : List Track) → k + 1 ≡ l.i → slice_get (points_of l.history.history) k ≡ Some p
    → AreSearched (size_in l.sizes) l.found (point_blocks p))
