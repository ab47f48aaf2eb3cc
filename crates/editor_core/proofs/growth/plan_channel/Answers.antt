-- The plan of one channel.
use Rattle.editor_core.proofs.Common.{◌∙◌, sym, ap, subst, List, map, as_cells, inserted, stretch, Clip, layout_blocks}
use Rattle.editor_core.proofs.Common.{NewBlock, IsPlan, Means, block_behind}
use Rattle.clip_track.specs.{Clips.IsLayout}
use Rattle.edit_ops.specs.{Plans.start_of}
use Rattle.editor_imports.specs.Imports.{AllFitBehind}
use Rattle.editor_imports.proofs.ChannelPlans.{channel_plan, fit_blocks}
use Rattle.editor_core.proofs.growth.plan_channel.Goals as goal

pub moved_blocks-requires : goal.moved_blocks-requires
moved_blocks-requires c =
    let plan = subst (λ (cs : List Clip). IsPlan (start_of c.args.planner) (layout_blocks cs) c.args.count
    c.in_ok-plan.plan) c.new.ensures c.in_ok-plan.ensures.plan in
    let makes = c.in_ok-plan.plan.makes in
    subst (λ (bs : List NewBlock). AllFitBehind c.args.from bs) (sym c.as_slice.ensures)
    (fit_blocks c.args.planner.block_size c.args.planner.next c.args.count c.args.from makes plan.origin plan.new
    c.requires.few)

pub returns-clause-plan : goal.returns-clause-plan
returns-clause-plan c =
    let m = c.args.planner.block_size in
    let next = c.args.planner.next in
    let count = c.args.count in
    let p = c.in_ok-plan.plan in
    let plan = subst (λ (cs : List Clip). IsPlan (start_of c.args.planner) (layout_blocks cs) count p)
    c.new.ensures c.in_ok-plan.ensures.plan in
    let means = subst (λ (cs : List Clip). Means (λ src. inserted 0 (as_cells (stretch src.given 0 count))) cs p)
    c.new.ensures c.in_ok-plan.ensures.cells in
    channel_plan c.args.from count m next p c.new-3.result
    (subst IsLayout c.layout.view_is c.layout.invariant) plan means c.in_ok-plan.ensures.few_made
    (c.new-3.ensures ∙ c.in_ok-makes.ensures ∙ ap (map (block_behind c.args.from)) c.as_slice.ensures)
