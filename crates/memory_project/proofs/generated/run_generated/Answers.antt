-- The script of a number, made, run and summed up.
use Rattle.editor_core.specs.Core.{core_of}
use Rattle.memory_project.proofs.RunLemmas.{script_runs, script_sums, sum_ran}
use Rattle.memory_project.proofs.generated.run_generated.Goals as goal

pub run_script-requires : goal.run_script-requires
run_script-requires c =
    let e = c.in_ok-script.ensures in
    script_runs _ c.args.number c.args.lines c.project_for.ensures c.in_ok-studio.ensures c.deref.ensures.value e.script
    e.count e.valid e.needs

pub sum_up-requires : goal.sum_up-requires
sum_up-requires c =
    let e = c.in_ok-script.ensures in
    script_sums _ c.args.number c.args.lines c.project_for.ensures c.in_ok-studio.ensures c.deref.ensures.value e.script
    e.count e.valid e.needs c.in_ok-run_script.ensures

pub returns : goal.returns
returns c =
    let e = c.in_ok-script.ensures in
    sum_ran _ c.args.number c.args.lines c.project_for.ensures c.in_ok-studio.ensures c.deref.ensures.value e.script
    e.count e.valid e.needs c.in_ok-run_script.ensures (core_of c.sum_up.new.studio) c.sum_up.result
    c.sum_up.ensures.sum c.sum_up.ensures.looks
