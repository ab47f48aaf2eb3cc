-- What is before the frames, and then the others.
use Rattle.envelope_view.proofs.Common.{arith}
use Rattle.envelope_view.proofs.BlockReads.{sums_err, sums_then, sums_then_err}
use Rattle.envelope_view.proofs.parts.summarize.Goals as goal

pub returns-in_err-front : goal.returns-in_err-front
returns-in_err-front g c =
    sums_err _ c.from_residual.ensures.1 (omega (arith, c.if-first-end.false, c.long_end-end.ensures.low))
    c.in_err-front.ensures

pub returns-in_err-back : goal.returns-in_err-back
returns-in_err-back g c = sums_then_err _ c.from_residual-in_err-back.ensures.1 (omega (
  arith,
  c.div_ceil-first.ensures,
))
    (omega (arith, c.if-first-end.false, c.long_end-end.ensures.low)) c.in_ok-front.ensures c.in_err-back.ensures

pub returns : goal.returns
returns g c = sums_then c.join.result (omega (arith, c.div_ceil-first.ensures))
    (omega (arith, c.if-first-end.false, c.long_end-end.ensures.low)) c.join.ensures.exact c.in_ok-front.ensures
    c.in_ok-back.ensures
