-- Only the block of the run is read.
use Rattle.mix_reader.proofs.Common.{◌∷◌, [], exit_err, reads_err, reads_more, reads_none, reads_ok}
use Rattle.mix_reader.proofs.PlanLaws.{one_among}
use Rattle.mix_reader.proofs.plans.plan_run.Goals as goal

pub returns-then-run-eq0-clause-reads : goal.returns-then-run-eq0-clause-reads
returns-then-run-eq0-clause-reads g c = λ bs has. reads_none _ (g.met.S.Store.may_fewer _)

pub returns-in_err-compare-clause-reads : goal.returns-in_err-compare-clause-reads
returns-in_err-compare-clause-reads g c =
    rw (exit_err c.from_residual.result c.from_residual.ensures.1)
    (λ bs has. reads_more (c.args.run.block ∷ []) bs (one_among c.args.run.block bs has)
    (reads_err c.in_err-compare.ensures.reads))

pub returns-clause-reads : goal.returns-clause-reads
returns-clause-reads g c = λ bs has.
    reads_more (c.args.run.block ∷ []) bs (one_among c.args.run.block bs has)
    (reads_ok {x = tt} c.in_ok-compare.ensures.reads)
