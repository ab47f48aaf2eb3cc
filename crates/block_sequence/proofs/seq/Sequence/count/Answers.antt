-- The goals of `count` that the search leaves open.
use Rattle.std.proofs.Common.{arith}
use Rattle.block_sequence.proofs.FlatRows.{length_few}
use Rattle.block_sequence.proofs.seq.Sequence.count.Goals as goal

pub returns-clause-few : goal.returns-clause-few
returns-clause-few c = let e = length_few _ c.self.invariant.none_empty in omega (arith, e, c.self.invariant)
