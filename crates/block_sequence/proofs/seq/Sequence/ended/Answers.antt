-- Each block has a sample.
use Rattle.std.proofs.Common.{arith}
use Rattle.block_sequence.proofs.FlatRows.{length_few}
use Rattle.block_sequence.proofs.seq.Sequence.ended.Goals as goal

pub ended_rows-requires-clause-all : goal.ended_rows-requires-clause-all
ended_rows-requires-clause-all c =
    let e = length_few c.args.self.now c.rows.ensures.none_empty in
    rw c.rows.ensures.value (omega (arith, e, c.rows.ensures.few))
