-- The frames, and then what is after them.
use Rattle.envelope_view.proofs.Common.{arith, Long}
use Rattle.envelope_view.proofs.BlockReads.{frames_err, frames_front, sums_then, sums_then_err}
use Rattle.envelope_view.proofs.parts.long_then_short.Goals as goal

pub returns-in_err-front : goal.returns-in_err-front
returns-in_err-front g c = frames_err Long c.args.to _ c.from_residual.ensures.1 (omega (arith, c.requires.rising))
    c.requires.behind c.in_err-front.ensures

pub returns-in_err-back : goal.returns-in_err-back
returns-in_err-back g c = sums_then_err _ c.from_residual-in_err-back.ensures.1
    (omega (arith, c.min-from.ensures, c.requires.rising, c.requires.behind)) (omega (arith, c.min-from.ensures))
    (frames_front Long c.min-from.result c.args.to _ (omega (arith, c.requires.rising))
    c.min-from.ensures c.requires.behind c.requires.last c.requires.within c.in_ok-front.ensures)
    c.in_err-back.ensures

pub returns : goal.returns
returns g c = sums_then c.join.result
    (omega (arith, c.min-from.ensures, c.requires.rising, c.requires.behind)) (omega (arith, c.min-from.ensures))
    c.join.ensures.exact
    (frames_front Long c.min-from.result c.args.to _ (omega (arith, c.requires.rising))
    c.min-from.ensures c.requires.behind c.requires.last c.requires.within c.in_ok-front.ensures)
    c.in_ok-back.ensures
