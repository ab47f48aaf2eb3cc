-- The first cells are the samples.
use Rattle.cell_reader.proofs.Common.{◌≡◌, take, map, Sample}
use Rattle.cell_reader.proofs.samples.put_samples.Given as goal

abbrev pub invariant-loop-i : goal.invariant-loop-i
invariant-loop-i l = take l.i l.out ≡ map Sample (take l.i l.samples)
