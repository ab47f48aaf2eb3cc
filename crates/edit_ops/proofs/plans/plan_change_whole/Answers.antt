-- The goals of `plan_change_whole` that the search leaves open.
use Rattle.edit_ops.proofs.Common.{◌+◌, ◌*◌, ◌/◌, ◌≤◌, true, ◌++◌, List, length, take, drop, map, sym, ap, subst, ◌∙◌}
use Rattle.edit_ops.proofs.Common.{arith, Cell, trimmed, part, sample_count, clip_count, Item, strip_cells, strip_room}
use Rattle.edit_ops.proofs.Common.{layout_blocks, First, cell_change, AllOld, ItemsFrom, with_change}
use Rattle.edit_ops.proofs.Tame.{fit_change, from_change, ItemsFrom-layout}
use Rattle.edit_ops.proofs.{ChangedItems.AllOld-items, Roomy.Smooth, Roomy.few_changed, StripCells.cells_with_change}
use Rattle.edit_ops.proofs.plans.plan_change_whole.Goals as goal

pub plan_strip-requires-clause-fit : goal.plan_strip-requires-clause-fit
plan_strip-requires-clause-fit c =
    let m = c.args.planner.block_size in
    rw c.in_ok-strip.ensures.items (fit_change m c.args.change c.args.from
    c.args.to _ (c.in_ok-whole.ensures.fit m c.requires.half_full))

pub returns-clause-plan : goal.returns-clause-plan
returns-clause-plan c =
    let w = c.in_ok-whole.ensures in
    let old = layout_blocks c.args.t.now in
    let P : List Item → Type 0 = ItemsFrom old 0 in
    let f = subst P (sym w.items) (ItemsFrom-layout 0 c.args.t.now) in
    c.in_ok-plan_strip.ensures.plan old 0 (subst P (sym c.in_ok-strip.ensures.items)
    (from_change old 0 c.args.change c.args.from c.args.to c.in_ok-whole.whole w.ok f))

pub returns-clause-kept : goal.returns-clause-kept
returns-clause-kept c = c.in_ok-plan_strip.ensures.kept (layout_blocks c.args.t.now)

pub returns-clause-cells : goal.returns-clause-cells
returns-clause-cells c src w =
    let o = subst AllOld (sym c.in_ok-whole.ensures.items) (AllOld-items 0 c.args.t.now) in
    c.in_ok-plan_strip.ensures.cells src w
    ∙ ap trimmed (ap (strip_cells src) c.in_ok-strip.ensures.items
    ∙ cells_with_change src c.args.change c.args.from c.args.to c.in_ok-whole.whole o
    ∙ ap (λ (cells : List Cell). take c.args.from cells ++ map (cell_change c.args.change)
    (part c.args.from c.args.to cells) ++ drop c.args.to cells) (c.in_ok-whole.ensures.cells src))

pub returns-clause-few_made : goal.returns-clause-few_made
returns-clause-few_made c src =
    let w = c.in_ok-whole.ensures in
    let h = c.requires.half_full in
    let m = c.args.planner.block_size in
    let from = c.args.from in
    let to = c.args.to in
    let whole = c.in_ok-whole.whole in
    let k = length c.in_ok-plan_strip.field-0.makes in
    let smooth : Smooth m whole = record { items_ok = w.ok; short = w.short m h; smooth = w.smooth m h } in
    let few : m * k ≤ strip_room m First true (with_change c.args.change from to whole) =
    omega (arith, c.in_ok-plan_strip.ensures.few_samples, ap (strip_room m First true) c.in_ok-strip.ensures.items) in
    let P : List Cell → Type 0 =
    λ cells. k ≤ 8 + sample_count (part from to cells) / m + clip_count (part from to cells) in
    subst P (w.cells src) (few_changed m k from to c.args.change src whole c.args.planner.some smooth few)
