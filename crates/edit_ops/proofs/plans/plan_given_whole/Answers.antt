-- The goals of `plan_given_whole` that the search leaves open.
use Rattle.edit_ops.proofs.Common.{◌*◌, ◌≤◌, true, ◌++◌, List, length, take, drop, sym, ap, ap₂, subst, ◌∙◌, arith}
use Rattle.edit_ops.proofs.Common.{Cell, trimmed, continued, strip_cells, strip_len, ItemsFit, Item, strip_room}
use Rattle.edit_ops.proofs.Common.{layout_blocks, First, ItemsFrom, given_items, with_inserted}
use Rattle.edit_ops.proofs.Tame.{fit_inserted, from_inserted, given_fit, given_from, given_len, ItemsFrom-layout}
use Rattle.edit_ops.proofs.{Roomy.Smooth, Roomy.few_inserted, StripCells.cells_with_inserted, StripCells.cells_given}
use Rattle.edit_ops.proofs.plans.plan_given_whole.Goals as goal

pub with_inserted-requires : goal.with_inserted-requires
with_inserted-requires c =
    let n = ap strip_len c.in_ok-given.ensures ∙ given_len c.args.count in
    omega (arith, n, c.in_ok-whole.ensures.len, c.requires.few)

pub plan_strip-requires-clause-fit : goal.plan_strip-requires-clause-fit
plan_strip-requires-clause-fit c =
    let m = c.args.planner.block_size in
    let P : List Item → Type 0 = ItemsFit m in
    rw c.in_ok-strip.ensures.items
    (fit_inserted m c.args.at _ _ (c.in_ok-whole.ensures.fit m c.requires.half_full)
    (subst P (sym c.in_ok-given.ensures) (given_fit m c.args.count)))

pub plan_strip-requires-clause-few : goal.plan_strip-requires-clause-few
plan_strip-requires-clause-few c =
    let n = ap strip_len c.in_ok-given.ensures ∙ given_len c.args.count in
    omega (arith, n, c.in_ok-whole.ensures.len, c.in_ok-strip.ensures.len, c.requires.few)

pub returns-clause-plan : goal.returns-clause-plan
returns-clause-plan c =
    let w = c.in_ok-whole.ensures in
    let old = layout_blocks c.args.t.now in
    let P : List Item → Type 0 = ItemsFrom old c.args.count in
    let f = subst P (sym w.items) (ItemsFrom-layout c.args.count c.args.t.now) in
    let g = subst P (sym c.in_ok-given.ensures) (given_from old c.args.count) in
    c.in_ok-plan_strip.ensures.plan old c.args.count (subst P (sym c.in_ok-strip.ensures.items)
    (from_inserted old c.args.count c.args.at _ c.in_ok-whole.whole w.ok f g))

pub returns-clause-kept : goal.returns-clause-kept
returns-clause-kept c = c.in_ok-plan_strip.ensures.kept (layout_blocks c.args.t.now)

pub returns-clause-cells : goal.returns-clause-cells
returns-clause-cells c src w =
    c.in_ok-plan_strip.ensures.cells src w
    ∙ ap trimmed (ap (strip_cells src) c.in_ok-strip.ensures.items
    ∙ cells_with_inserted src c.args.at c.in_ok-given.given c.in_ok-whole.whole
    ∙ ap₂ (λ (cells : List Cell) (ys : List Cell). take c.args.at (continued c.args.at cells) ++ ys
    ++ drop c.args.at cells)
    (c.in_ok-whole.ensures.cells src)
    (ap (strip_cells src) c.in_ok-given.ensures ∙ cells_given src c.args.count))

pub returns-clause-few_made : goal.returns-clause-few_made
returns-clause-few_made c =
    let w = c.in_ok-whole.ensures in
    let h = c.requires.half_full in
    let m = c.args.planner.block_size in
    let whole = c.in_ok-whole.whole in
    let k = length c.in_ok-plan_strip.field-0.makes in
    let smooth : Smooth m whole = record { items_ok = w.ok; short = w.short m h; smooth = w.smooth m h } in
    let same =
    c.in_ok-strip.ensures.items ∙ ap (λ (ys : List Item). with_inserted c.args.at ys whole) c.in_ok-given.ensures in
    let few : m * k ≤ strip_room m First true (with_inserted c.args.at (given_items c.args.count) whole) =
    omega (arith, c.in_ok-plan_strip.ensures.few_samples, ap (strip_room m First true) same) in
    few_inserted m k c.args.count c.args.at whole c.args.planner.some smooth few
