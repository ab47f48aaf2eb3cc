-- The first are gaps.
use Rattle.cell_reader.proofs.Common.{◌≡◌, take, replicate, Gap}
use Rattle.cell_reader.proofs.places.fill_gaps.Given as goal

abbrev pub invariant-loop-i : goal.invariant-loop-i
invariant-loop-i g l = take l.i l.out ≡ replicate l.i (g.T.FromCell.made Gap)
