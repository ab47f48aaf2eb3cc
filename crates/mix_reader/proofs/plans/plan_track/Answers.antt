-- Two parts have what is heard of the track.
use Rattle.mix_reader.proofs.Common.{◌-◌, exit_err, reads_err, reads_none, reads_ok, reads_then}
use Rattle.mix_reader.proofs.Common.{layout_blocks}
use Rattle.mix_reader.proofs.PlanLaws.{runs_plan}
use Rattle.mix_reader.proofs.plans.plan_track.Goals as goal

pub returns-then-track-clause-reads : goal.returns-then-track-clause-reads
returns-then-track-clause-reads g c = reads_none _ (g.met.S.Store.may_fewer _)

pub returns-in_default-clause-reads : goal.returns-in_default-clause-reads
returns-in_default-clause-reads g c = reads_none _ (g.met.S.Store.may_fewer _)

pub returns-in_err-part-clause-reads : goal.returns-in_err-part-clause-reads
returns-in_err-part-clause-reads g c =
    rw (exit_err c.from_residual.result c.from_residual.ensures.1) (reads_err
    (c.in_err-part.ensures.reads (layout_blocks c.args.track.now.layout) c.in-Some.ensures.first.among))

pub returns-in_err-next-clause-reads : goal.returns-in_err-next-clause-reads
returns-in_err-next-clause-reads g c =
    rw (exit_err c.from_residual-in_err-next.result c.from_residual-in_err-next.ensures.1)
    (reads_then (c.in_ok-part.ensures.reads (layout_blocks c.args.track.now.layout) c.in-Some.ensures.first.among)
    (reads_err (c.in_err-next.ensures.reads (layout_blocks c.args.track.now.layout) c.in-Some.ensures.second.among)))

pub returns-clause-reads : goal.returns-clause-reads
returns-clause-reads g c =
    reads_then (c.in_ok-part.ensures.reads (layout_blocks c.args.track.now.layout) c.in-Some.ensures.first.among)
    (reads_ok {x = c.in_ok-next.next}
    (c.in_ok-next.ensures.reads (layout_blocks c.args.track.now.layout) c.in-Some.ensures.second.among))

pub returns-clause-plan : goal.returns-clause-plan
returns-clause-plan g c =
    runs_plan c.args.from c.args.len c.args.track.now c.in-Some.first c.in-Some.second c.in_ok-part.part
    c.in_ok-next.next (c.args.end - c.args.len) c.if-track.false c.in-Some.ensures.first c.in-Some.ensures.second
    c.in-Some.ensures.all c.in_ok-part.ensures.part c.in_ok-next.ensures.part
