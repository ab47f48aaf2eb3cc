-- The rows from a place on fit.
use Rattle.std.proofs.Common.{true, drop}
use Rattle.block_sequence.specs.Rows.{flat}
use Rattle.purge_size.specs.Fits.{Takes}
use Rattle.purge_size.proofs.fitting.Fitting.take_rows.Given as goal

abbrev pub invariant-loop-i : goal.invariant-loop-i
invariant-loop-i l = Takes true (flat (drop l.i l.rows)) l.fn.self l.self
