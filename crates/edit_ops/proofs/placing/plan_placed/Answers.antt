-- The goals of `plan_placed` that the search leaves open.
use Rattle.edit_ops.proofs.Common.{◌++◌, List, sym, ap, subst, ◌∙◌, arith, trimmed, placed, Item, strip_cells}
use Rattle.edit_ops.proofs.Common.{strip_blocks, layout_blocks}
use Rattle.edit_ops.proofs.{Pastes.tame_placed, Pastes.cells_placed, Tame.Tame, Tame.tame_layout}
use Rattle.edit_ops.proofs.placing.plan_placed.Goals as goal

pub plan_strip-requires-clause-fit : goal.plan_strip-requires-clause-fit
plan_strip-requires-clause-fit c =
    let w = c.in_ok-whole.ensures in
    let m = c.args.planner.block_size in
    let h = c.requires.half_full in
    let t = tame_placed m _ c.args.placing c.args.at c.args.clip.now c.in_ok-whole.whole w.ok
    (tame_layout m c.args.t.now _ w.items (w.fit m h) (w.short m h) (w.smooth m h)) c.requires.clip in
    rw c.in_ok-strip.ensures.items t.fit

pub returns : goal.returns
returns c =
    let w = c.in_ok-whole.ensures in
    let m = c.args.planner.block_size in
    let h = c.requires.half_full in
    let clip = c.args.clip.now in
    let old = layout_blocks c.args.t.now ++ strip_blocks clip in
    let P : List Item → Type 0 = Tame m old 4 in
    let t = subst P (sym c.in_ok-strip.ensures.items)
    (tame_placed m _ c.args.placing c.args.at clip c.in_ok-whole.whole w.ok
    (tame_layout m c.args.t.now _ w.items (w.fit m h) (w.short m h) (w.smooth m h)) c.requires.clip) in
    record {
      plan = c.in_ok-plan_strip.ensures.plan old 0 t.origin;
      kept = c.in_ok-plan_strip.ensures.kept (layout_blocks c.args.t.now);
      cells = λ src k.
          c.in_ok-plan_strip.ensures.cells src k
          ∙ ap (λ (xs : List Item). trimmed (strip_cells src xs)) c.in_ok-strip.ensures.items
          ∙ cells_placed src c.args.placing c.args.at clip c.in_ok-whole.whole
          ∙ ap (placed c.args.placing c.args.at (strip_cells src clip)) (w.cells src);
      few_made = omega (arith, c.in_ok-plan_strip.ensures.few_made t.short, t.few_rough);
    }
