-- Nothing is read, or what is planned.
use Rattle.mix_reader.proofs.Common.{arith, reads_none}
use Rattle.mix_reader.proofs.plans.read_plan.Goals as goal

pub returns-then-plan-eq0-clause-reads : goal.returns-then-plan-eq0-clause-reads
returns-then-plan-eq0-clause-reads g c = λ bs some. reads_none _ (g.met.S.Store.may_fewer _)

pub returns-clause-reads : goal.returns-clause-reads
returns-clause-reads g c = λ bs some.
    let found = some (omega (arith, c.if-plan-eq0.false)) in
    c.read_parts.ensures.reads found.0 bs found.1
