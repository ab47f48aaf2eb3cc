-- The goals of `longest` that the search leaves open.
use Rattle.edit_ops.proofs.Common.{ap, arith, longest_of}
use Rattle.edit_ops.proofs.RunLists.{layouts_left}
use Rattle.edit_ops.proofs.run_refusals.longest.Goals as goal

pub loop-t-preserved : goal.loop-t-preserved
loop-t-preserved c =
    let run = c.args.run.now in
    let i = c.loop-t.t-index in
    let e = ap longest_of (layouts_left run i c.t-item.result c.loop-t-test.true c.t-item.is) in
    grind (arith, e)
