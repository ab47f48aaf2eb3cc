-- The plan of the window's track, put in its place.
use Rattle.edit_ops.proofs.Common.{inl, inr, arith, ◌+◌, ◌/◌, ◌≤◌, List, length, sym, subst, NewBlock, AreWritten, Cell}
use Rattle.edit_ops.proofs.Common.{Sources, cell_change, clip_count, part, sample_count, layout_blocks}
use Rattle.std.proofs.Common.{IfSome, Option}
use Rattle.pcm_base.specs.Edits.{changed}
use Rattle.clip_track.specs.Clips.{layout_cells}
use Rattle.edit_ops.proofs.WindowEdits.{means_changed, part_near}
use Rattle.edit_ops.specs.Plans.{IsPlan, Means, start_of}
use Rattle.edit_ops.specs.Windows.{IsNear, IsPlaced}
use Rattle.edit_ops.specs.declared.windows.Near.{Near}
use Rattle.edit_ops.proofs.WindowPlans.{if_some, near_end, near_half_full, plan_near}
use Rattle.edit_ops.proofs.plans.plan_change_near.Goals as goal

pub plan_change_whole-requires-clause-half_full : goal.plan_change_whole-requires-clause-half_full
plan_change_whole-requires-clause-half_full c =
    let m = c.args.planner.block_size in
    let t = c.args.t.now in
    let n = c.in-Some.found in
    let P : Option Near → Type 0 = λ o. IfSome o (IsNear m c.args.from c.args.to t) in
    let h : IsNear m c.args.from c.args.to t n = subst P c.in-Some.is c.in_ok-found.ensures in
    near_half_full m c.args.from c.args.to t n h

pub returns-clause-plan : goal.returns-clause-plan
returns-clause-plan c =
    let start = start_of c.args.planner in
    let m = c.args.planner.block_size in
    let t = c.args.t.now in
    let n = c.in-Some.found in
    let P : Option Near → Type 0 = λ o. IfSome o (IsNear m c.args.from c.args.to t) in
    let h : IsNear m c.args.from c.args.to t n = subst P c.in-Some.is c.in_ok-found.ensures in
    let old = c.len-old.result in
    let new = old in
    let small = c.in_ok-plan.plan in
    if_some (IsPlaced m n.window old new small) (λ p. IsPlan start (layout_blocks t) 0 p)
    c.in_ok-put_back.field-0
    (λ p a. plan_near start t n c.args.from c.args.to old new 0 small p h a
    c.in_ok-plan.ensures.plan)
    c.in_ok-put_back.ensures.placed

pub returns-clause-cells : goal.returns-clause-cells
returns-clause-cells c =
    let m = c.args.planner.block_size in
    let t = c.args.t.now in
    let n = c.in-Some.found in
    let P : Option Near → Type 0 = λ o. IfSome o (IsNear m c.args.from c.args.to t) in
    let h : IsNear m c.args.from c.args.to t n = subst P c.in-Some.is c.in_ok-found.ensures in
    let old = c.len-old.result in
    let new = old in
    let small = c.in_ok-plan.plan in
    if_some (IsPlaced m n.window old new small) (λ p. Means (λ src. changed (cell_change c.args.change) c.args.from c.args.to) t p) c.in_ok-put_back.field-0
    (λ p a src written.
    let W : List NewBlock → Type 0 = AreWritten src in
    let e = c.in_ok-plan.ensures.cells src (subst W a.makes written) in
    means_changed src m (cell_change c.args.change) t n old c.args.from c.args.to small p h c.len-old.ensures.value c.requires.rising a e)
    c.in_ok-put_back.ensures.placed

pub returns-clause-few_made : goal.returns-clause-few_made
returns-clause-few_made c =
    let m = c.args.planner.block_size in
    let t = c.args.t.now in
    let n = c.in-Some.found in
    let P : Option Near → Type 0 = λ o. IfSome o (IsNear m c.args.from c.args.to t) in
    let h : IsNear m c.args.from c.args.to t n = subst P c.in-Some.is c.in_ok-found.ensures in
    let small = c.in_ok-plan.plan in
    if_some (IsPlaced m n.window c.len-old.result c.len-old.result small) (λ p. (src : Sources) →
    let cells = part c.args.from c.args.to (layout_cells src t) in
    length p.makes ≤ 8 + sample_count cells / m + clip_count cells)
    c.in_ok-put_back.field-0
    (λ p a src.
    let F : List Cell → Type 0 = λ cells. length small.makes ≤ 8 + sample_count cells / m + clip_count cells in
    let cells = part c.args.from c.args.to (layout_cells src t) in
    let G : List NewBlock → Type 0 = λ ns. length ns ≤ 8 + sample_count cells / m + clip_count cells in
    subst G (sym a.makes) (subst F (part_near src m c.args.from c.args.to t n h c.requires.rising)
    (c.in_ok-plan.ensures.few_made src)))
    c.in_ok-put_back.ensures.placed

pub put_back-requires-clause-far : goal.put_back-requires-clause-far
put_back-requires-clause-far c =
    let m = c.args.planner.block_size in
    let t = c.args.t.now in
    let n = c.in-Some.found in
    let P : Option Near → Type 0 = λ o. IfSome o (IsNear m c.args.from c.args.to t) in
    let h : IsNear m c.args.from c.args.to t n = subst P c.in-Some.is c.in_ok-found.ensures in
    elim (near_end m c.args.from c.args.to t n h) [
      | inl e ↦ omega (arith, e, c.len-old.ensures.value, h.window.layout.few)
      | inr e ↦ omega (arith, e, h.past, h.within, c.requires.rising)
    ]
