-- The plan of the window's track, put in its place.
use Rattle.edit_ops.proofs.Common.{◌+◌, List, inl, inr, subst, ◌∙◌, arith, NewBlock, AreWritten, stretch}
use Rattle.edit_ops.proofs.Common.{layout_blocks}
use Rattle.std.proofs.Common.{IfSome, Option}
use Rattle.std.proofs.lemmas.List.{length-map}
use Rattle.pcm_base.specs.Edits.{as_cells, inserted}
use Rattle.pcm_base.proofs.Pieces.{length-stretch}
use Rattle.edit_ops.proofs.WindowEdits.{means_inserted}
use Rattle.edit_ops.specs.Plans.{IsPlan, Means, start_of}
use Rattle.edit_ops.specs.Windows.{IsNear, IsPlaced}
use Rattle.edit_ops.specs.declared.windows.Near.{Near}
use Rattle.edit_ops.proofs.WindowPlans.{if_some, near_end, near_half_full, plan_near}
use Rattle.edit_ops.proofs.plans.plan_given_near.Goals as goal

pub plan_given_whole-requires-clause-half_full : goal.plan_given_whole-requires-clause-half_full
plan_given_whole-requires-clause-half_full c =
    let m = c.args.planner.block_size in
    let t = c.args.t.now in
    let n = c.in-Some.found in
    let P : Option Near → Type 0 = λ o. IfSome o (IsNear m c.args.at c.args.at t) in
    let h : IsNear m c.args.at c.args.at t n = subst P c.in-Some.is c.in_ok-found.ensures in
    near_half_full m c.args.at c.args.at t n h

pub returns-clause-plan : goal.returns-clause-plan
returns-clause-plan c =
    let start = start_of c.args.planner in
    let m = c.args.planner.block_size in
    let t = c.args.t.now in
    let n = c.in-Some.found in
    let P : Option Near → Type 0 = λ o. IfSome o (IsNear m c.args.at c.args.at t) in
    let h : IsNear m c.args.at c.args.at t n = subst P c.in-Some.is c.in_ok-found.ensures in
    let old = c.len-old.result in
    let new = old + c.args.count in
    let small = c.in_ok-plan.plan in
    if_some (IsPlaced m n.window old new small) (λ p. IsPlan start (layout_blocks t) c.args.count p)
    c.in_ok-put_back.field-0
    (λ p a. plan_near start t n c.args.at c.args.at old new c.args.count small p h a
    c.in_ok-plan.ensures.plan)
    c.in_ok-put_back.ensures.placed

pub returns-clause-cells : goal.returns-clause-cells
returns-clause-cells c =
    let m = c.args.planner.block_size in
    let t = c.args.t.now in
    let n = c.in-Some.found in
    let P : Option Near → Type 0 = λ o. IfSome o (IsNear m c.args.at c.args.at t) in
    let h : IsNear m c.args.at c.args.at t n = subst P c.in-Some.is c.in_ok-found.ensures in
    let old = c.len-old.result in
    let new = old + c.args.count in
    let small = c.in_ok-plan.plan in
    if_some (IsPlaced m n.window old new small)
    (λ p. Means (λ src. inserted c.args.at (as_cells (stretch src.given 0 c.args.count))) t p) c.in_ok-put_back.field-0
    (λ p a src written.
    let W : List NewBlock → Type 0 = AreWritten src in
    let e = c.in_ok-plan.ensures.cells src (subst W a.makes written) in
    means_inserted src m t n old c.args.count c.args.at small p (as_cells (stretch src.given 0 c.args.count)) h
    c.len-old.ensures.value a (length-map _ _ ∙ length-stretch src.given 0 c.args.count) e)
    c.in_ok-put_back.ensures.placed

pub plan_given_whole-requires-clause-few : goal.plan_given_whole-requires-clause-few
plan_given_whole-requires-clause-few c =
    let m = c.args.planner.block_size in
    let t = c.args.t.now in
    let n = c.in-Some.found in
    let P : Option Near → Type 0 = λ o. IfSome o (IsNear m c.args.at c.args.at t) in
    let h : IsNear m c.args.at c.args.at t n = subst P c.in-Some.is c.in_ok-found.ensures in
    elim (near_end m c.args.at c.args.at t n h) [
      | inl e ↦ omega (arith, e, h.within, h.past, c.requires.few)
      | inr e ↦ omega (arith, e, h.within, h.past, c.requires.few)
    ]

pub put_back-requires-clause-few : goal.put_back-requires-clause-few
put_back-requires-clause-few c =
    let m = c.args.planner.block_size in
    let t = c.args.t.now in
    let n = c.in-Some.found in
    let P : Option Near → Type 0 = λ o. IfSome o (IsNear m c.args.at c.args.at t) in
    let h : IsNear m c.args.at c.args.at t n = subst P c.in-Some.is c.in_ok-found.ensures in
    elim (near_end m c.args.at c.args.at t n h) [
      | inl e ↦ omega (arith, e, c.len-old.ensures.value, c.requires.few)
      | inr e ↦ omega (arith, e, c.len-old.ensures.value, c.requires.few)
    ]

pub put_back-requires-clause-far : goal.put_back-requires-clause-far
put_back-requires-clause-far c =
    let m = c.args.planner.block_size in
    let t = c.args.t.now in
    let n = c.in-Some.found in
    let P : Option Near → Type 0 = λ o. IfSome o (IsNear m c.args.at c.args.at t) in
    let h : IsNear m c.args.at c.args.at t n = subst P c.in-Some.is c.in_ok-found.ensures in
    elim (near_end m c.args.at c.args.at t n h) [
      | inl e ↦ omega (arith, e, c.len-old.ensures.value, c.requires.few)
      | inr e ↦ omega (arith, e, h.past, c.len-old.ensures.value, c.requires.few)
    ]
