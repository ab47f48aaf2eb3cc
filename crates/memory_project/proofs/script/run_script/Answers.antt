-- A line more.
use Rattle.std.proofs.Common.{◌+◌, drop, refl, subst}
use Rattle.std.proofs.{lemmas.Option.slice_get_read, lemmas.List.drop_all}
use Rattle.pcm_base.specs.declared.command.Command.{Command}
use Rattle.project_state.proofs.Points.{drop_some}
use Rattle.editor_core.specs.Core.{core_of}
use Rattle.memory_project.proofs.ScriptLemmas.{IsOnWay, first_comes, on_way_first, on_way_last, on_way_more}
use Rattle.memory_project.proofs.script.run_script.Goals as goal

pub lines-init : goal.lines-init
lines-init g c = on_way_first g.S.Store (core_of c.args.studio.now) c.args.script.now c.requires

pub run_line-requires : goal.run_line-requires
run_line-requires g c =
    let s = core_of c.lines.studio in
    let all = c.args.script.now in
    let i = c.lines.command-index in
    let command : Command = c.command-item.result in
    let is = drop_some all i command (slice_get_read all _ i command refl c.lines-test.true c.command-item.is) in
    let way = subst (IsOnWay g.S.Store (core_of c.args.studio.now) all s) is c.lines.invariant in
    first_comes g.S.Store s command (drop (i + 1) all) way.may

pub lines-preserved : goal.lines-preserved
lines-preserved g c =
    let s = core_of c.lines.studio in
    let first = core_of c.args.studio.now in
    let all = c.args.script.now in
    let i = c.lines.command-index in
    let command : Command = c.command-item.result in
    let is = drop_some all i command (slice_get_read all _ i command refl c.lines-test.true c.command-item.is) in
    let way = subst (IsOnWay g.S.Store first all s) is c.lines.invariant in
    on_way_more g.S.Store first all s (core_of c.run_line.new.studio) command (drop (i + 1) all) way
    c.in_ok-run_line.ensures.went

pub returns : goal.returns
returns g c =
    let s = core_of c.lines.studio in
    let first = core_of c.args.studio.now in
    let all = c.args.script.now in
    let i = c.lines.command-index in
    on_way_last g.S.Store first all s
    (subst (IsOnWay g.S.Store first all s) (drop_all i all c.lines-test.false) c.lines.invariant)
