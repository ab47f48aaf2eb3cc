-- The plan of the window's track, put in its place.
use Rattle.edit_ops.proofs.Common.{◌-◌, List, inl, inr, sym, ◌∙◌, arith, cut_cells, end_of, subst, NewBlock, AreWritten}
use Rattle.edit_ops.proofs.Common.{layout_blocks}
use Rattle.std.proofs.Common.{IfSome, Option}
use Rattle.edit_ops.proofs.WindowEdits.{cuts_within, left_few, means_cut}
use Rattle.edit_ops.specs.Plans.{IsPlan, Means, start_of}
use Rattle.edit_ops.specs.Windows.{IsNear, IsPlaced}
use Rattle.edit_ops.specs.declared.windows.Near.{Near}
use Rattle.edit_ops.proofs.WindowPlans.{if_some, near_end, near_half_full, plan_near}
use Rattle.edit_ops.proofs.plans.plan_cut_near.Goals as goal

pub plan_cut_whole-requires-clause-half_full : goal.plan_cut_whole-requires-clause-half_full
plan_cut_whole-requires-clause-half_full c =
    let m = c.args.planner.block_size in
    let t = c.args.t.now in
    let n = c.in-Some.found in
    let P : Option Near → Type 0 = λ o. IfSome o (IsNear m c.args.from c.args.to t) in
    let h : IsNear m c.args.from c.args.to t n = subst P c.in-Some.is c.in_ok-found.ensures in
    near_half_full m c.args.from c.args.to t n h

pub returns-clause-plan : goal.returns-clause-plan
returns-clause-plan c =
    let start = start_of c.args.planner in
    let m = c.args.planner.block_size in
    let t = c.args.t.now in
    let n = c.in-Some.found in
    let P : Option Near → Type 0 = λ o. IfSome o (IsNear m c.args.from c.args.to t) in
    let h : IsNear m c.args.from c.args.to t n = subst P c.in-Some.is c.in_ok-found.ensures in
    let old = c.len-old.result in
    let new = c.in-Some-cells_left.new in
    let small = c.in_ok-plan.plan in
    if_some (IsPlaced m n.window old new small) (λ p. IsPlan start (layout_blocks t) 0 p)
    c.in_ok-put_back.field-0
    (λ p a. plan_near start t n c.args.from c.args.to old new 0 small p h a
    c.in_ok-plan.ensures.plan)
    c.in_ok-put_back.ensures.placed

pub returns-clause-cells : goal.returns-clause-cells
returns-clause-cells c =
    let m = c.args.planner.block_size in
    let t = c.args.t.now in
    let n = c.in-Some.found in
    let P : Option Near → Type 0 = λ o. IfSome o (IsNear m c.args.from c.args.to t) in
    let h : IsNear m c.args.from c.args.to t n = subst P c.in-Some.is c.in_ok-found.ensures in
    let old = c.len-old.result in
    let new = c.in-Some-cells_left.new in
    let small = c.in_ok-plan.plan in
    let left = sym c.cells_left.ensures ∙ c.in-Some-cells_left.is in
    if_some (IsPlaced m n.window old new small) (λ p. Means (λ src. cut_cells c.args.cut c.args.from c.args.to) t p) c.in_ok-put_back.field-0
    (λ p a src written.
    let W : List NewBlock → Type 0 = AreWritten src in
    let e = c.in_ok-plan.ensures.cells src (subst W a.makes written) in
    means_cut src m c.args.cut t n old new c.args.from c.args.to small p h c.len-old.ensures.value c.requires.rising left a e)
    c.in_ok-put_back.ensures.placed

pub plan_cut_whole-requires-clause-within : goal.plan_cut_whole-requires-clause-within
plan_cut_whole-requires-clause-within c =
    let m = c.args.planner.block_size in
    let t = c.args.t.now in
    let n = c.in-Some.found in
    let P : Option Near → Type 0 = λ o. IfSome o (IsNear m c.args.from c.args.to t) in
    let h : IsNear m c.args.from c.args.to t n = subst P c.in-Some.is c.in_ok-found.ensures in
    cuts_within c.args.cut (c.args.to - n.window.from) (end_of 0 n.small) h.within

pub put_back-requires-clause-few : goal.put_back-requires-clause-few
put_back-requires-clause-few c =
    let m = c.args.planner.block_size in
    let t = c.args.t.now in
    let n = c.in-Some.found in
    let P : Option Near → Type 0 = λ o. IfSome o (IsNear m c.args.from c.args.to t) in
    let h : IsNear m c.args.from c.args.to t n = subst P c.in-Some.is c.in_ok-found.ensures in
    let few = left_few c.args.cut c.len-old.result (c.args.to - c.args.from) c.in-Some-cells_left.new
    (sym c.cells_left.ensures ∙ c.in-Some-cells_left.is) in
    elim (near_end m c.args.from c.args.to t n h) [
      | inl e ↦ omega (arith, few, e, c.len-old.ensures.value, h.window.layout.few)
      | inr e ↦ omega (arith, few, e, c.len-old.ensures.value, h.window.layout.few)
    ]

pub put_back-requires-clause-far : goal.put_back-requires-clause-far
put_back-requires-clause-far c =
    let m = c.args.planner.block_size in
    let t = c.args.t.now in
    let n = c.in-Some.found in
    let P : Option Near → Type 0 = λ o. IfSome o (IsNear m c.args.from c.args.to t) in
    let h : IsNear m c.args.from c.args.to t n = subst P c.in-Some.is c.in_ok-found.ensures in
    let few = left_few c.args.cut c.len-old.result (c.args.to - c.args.from) c.in-Some-cells_left.new
    (sym c.cells_left.ensures ∙ c.in-Some-cells_left.is) in
    elim (near_end m c.args.from c.args.to t n h) [
      | inl e ↦ omega (arith, few, e, c.len-old.ensures.value, h.window.layout.few)
      | inr e ↦ omega (arith, few, e, h.past, h.within, c.requires.rising)
    ]
