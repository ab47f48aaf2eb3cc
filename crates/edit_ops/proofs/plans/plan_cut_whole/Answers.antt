-- The goals of `plan_cut_whole` that the search leaves open.
use Rattle.edit_ops.proofs.Common.{List, ap, ◌∙◌, arith, trimmed, Item, strip_cells, layout_blocks, cut_cells}
use Rattle.edit_ops.proofs.{StripCells.cells_cut, Tame.tame_cut}
use Rattle.edit_ops.proofs.plans.plan_cut_whole.Goals as goal

pub plan_strip-requires-clause-fit : goal.plan_strip-requires-clause-fit
plan_strip-requires-clause-fit c =
    let m = c.args.planner.block_size in
    let w = c.in_ok-whole.ensures in
    let h = c.requires.half_full in
    (tame_cut m c.args.cut c.args.from c.args.to c.args.t.now _ _ w.items w.ok (w.fit m h) (w.short m h) (w.smooth m h)
    c.in_ok-strip.ensures.items).fit

pub returns-clause-plan : goal.returns-clause-plan
returns-clause-plan c =
    let m = c.args.planner.block_size in
    let w = c.in_ok-whole.ensures in
    let h = c.requires.half_full in
    c.in_ok-plan_strip.ensures.plan (layout_blocks c.args.t.now) 0
    (tame_cut m c.args.cut c.args.from c.args.to c.args.t.now _ _ w.items w.ok (w.fit m h) (w.short m h) (w.smooth m h)
    c.in_ok-strip.ensures.items).origin

pub returns-clause-kept : goal.returns-clause-kept
returns-clause-kept c = c.in_ok-plan_strip.ensures.kept (layout_blocks c.args.t.now)

pub returns-clause-cells : goal.returns-clause-cells
returns-clause-cells c src w =
    c.in_ok-plan_strip.ensures.cells src w
    ∙ ap (λ (xs : List Item). trimmed (strip_cells src xs)) c.in_ok-strip.ensures.items
    ∙ cells_cut src c.args.cut c.args.from c.args.to c.in_ok-whole.whole
    ∙ ap (cut_cells c.args.cut c.args.from c.args.to) (c.in_ok-whole.ensures.cells src)

pub returns-clause-few_made : goal.returns-clause-few_made
returns-clause-few_made c =
    let m = c.args.planner.block_size in
    let w = c.in_ok-whole.ensures in
    let h = c.requires.half_full in
    let t = tame_cut m c.args.cut c.args.from c.args.to c.args.t.now _ _ w.items w.ok (w.fit m h) (w.short m h)
    (w.smooth m h) c.in_ok-strip.ensures.items in
    omega (arith, c.in_ok-plan_strip.ensures.few_made t.short, t.few_rough)
