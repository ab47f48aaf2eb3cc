-- The answer is that of the read.
use Rattle.cell_reader.proofs.Common.{length, take, arith, length-take, same_none, exit_err, reads_err}
use Rattle.cell_reader.proofs.KeptLaws.{samples_part}
use Rattle.cell_reader.proofs.samples.read_buffer.Goals as goal

pub returns-in_err-samples-clause-reads : goal.returns-in_err-samples-clause-reads
returns-in_err-samples-clause-reads g c =
    rw (exit_err c.from_residual.result c.from_residual.ensures.1) (reads_err c.in_err-samples.ensures.reads)

pub returns-in_err-samples-clause-hit : goal.returns-in_err-samples-clause-hit
returns-in_err-samples-clause-hit g c = rw (exit_err c.from_residual.result c.from_residual.ensures.1) (λ has.
    let a = c.args in
    let n = length a.out.now in
    c.in_err-samples.ensures.hit (samples_part a.reader.now.cache _ a.block a.from n a.from
    (length (take n a.buf.now)) (same_none _) (omega arith) (omega (arith, length-take n a.buf.now)) has))

pub returns-clause-hit : goal.returns-clause-hit
returns-clause-hit g c = λ has.
    let a = c.args in
    let n = length a.out.now in
    c.in_ok-samples.ensures.hit (samples_part a.reader.now.cache _ a.block a.from n a.from
    (length (take n a.buf.now)) (same_none _) (omega arith) (omega (arith, length-take n a.buf.now)) has)
