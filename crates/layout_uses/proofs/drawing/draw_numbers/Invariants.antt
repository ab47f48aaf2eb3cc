-- The tracks so far have their numbers.
use Rattle.layout_uses.proofs.Common.{◌≡◌, ◌+◌, ◌≤◌, map, take, unnumbered, HasNumbers}
use Rattle.layout_uses.proofs.drawing.draw_numbers.Given as goal

abbrev pub invariant-loop-i : goal.invariant-loop-i
invariant-loop-i l =
    HasNumbers l.current l.next l.point l.after × (map unnumbered l.point ≡ map unnumbered (take l.i l.tracks))
    × (l.after ≤ l.next + l.i)
