-- The side that was read, and the whole as it was before.
use Rattle.envelope_view.proofs.Common.{arith}
use Rattle.envelope_view.proofs.BlockReads.{block_err, block_ok, on_back, two_parts}
use Rattle.envelope_view.proofs.{HalvesLaws.rest_before, KeptLaws.part_in}
use Rattle.envelope_view.proofs.halves.after_first.Goals as goal

pub other_side-requires-clause-rest : goal.other_side-requires-clause-rest
other_side-requires-clause-rest g c = on_back c.in_ok-after.ensures (λ xs of was got. c.rest_of-rest.ensures _
    (rest_before c.args.at.from c.args.at.edge c.args.at.to xs c.args.whole c.in_ok-after.after of.fit of.few
    c.requires.before c.requires.behind (omega (arith, of.len, c.requires.within)) was got)) c.requires.whole

pub returns-in_err-after : goal.returns-in_err-after
returns-in_err-after g c = block_err _ c.from_residual.ensures.1 c.in_err-after.ensures
    (part_in _ c.args.block c.args.at.from c.args.at.to c.args.at.edge c.args.at.to (omega (arith, c.requires.before))
    (omega (arith, c.requires.behind)))

pub returns-in_err-before : goal.returns-in_err-before
returns-in_err-before g c = block_err _ c.from_residual-in_err-before.ensures.1
    (two_parts c.args.at.from c.args.at.to c.in_ok-after.ensures c.in_err-before.ensures
    (omega (arith, c.requires.before)) (omega (arith, c.requires.behind)) (omega (arith, c.requires.before)) (omega
    (arith, c.requires.behind))) (λ has. has)

pub returns : goal.returns
returns g c = block_ok (two_parts c.args.at.from c.args.at.to c.in_ok-after.ensures c.in_ok-before.ensures
    (omega (arith, c.requires.before)) (omega (arith, c.requires.behind)) (omega (arith, c.requires.before)) (omega
    (arith, c.requires.behind))) (λ has. has)
    (λ xs of got. (got.1, got.0))
