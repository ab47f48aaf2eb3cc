-- The least of all.
use Rattle.editor_core.proofs.Common.{◌≡◌, ◌∙◌, sym, ap, subst, ℕ, ◌+◌, ◌<◌, List, ◌∷◌, length, drop, arith, Plan}
use Rattle.std.proofs.Common.{get_or}
use Rattle.std.proofs.lemmas.List.{drop_all, drop_more}
use Rattle.editor_tracks.specs.RunEdits.{AllKeep}
use Rattle.editor_core.proofs.laying.least_kept.Goals as goal

taken : (plans : List Plan) (i : ℕ) (x : Plan) → i < length plans → x ≡ get_or plans i x
    → drop i plans ≡ x ∷ drop (i + 1) plans
taken plans i x h e = drop_more plans i x h ∙ ap (λ (y : Plan). y ∷ drop (i + 1) plans) (sym e)

pub loop-plan-init : goal.loop-plan-init
loop-plan-init c = λ j within rest. rest

pub loop-plan-preserved : goal.loop-plan-preserved
loop-plan-preserved c = λ j within rest.
    let plans = c.args.plans.now in
    let i = c.loop-plan.plan-index in
    let x : Plan = c.plan-item.result in
    c.loop-plan.invariant j (omega (arith, within.0, c.min-front.ensures), omega (arith, within.1, c.min-back.ensures))
    (subst (AllKeep j) (sym (taken plans i x c.loop-plan-test.true c.plan-item.is))
    ((omega (arith, within.0, c.min-front.ensures), omega (arith, within.1, c.min-back.ensures)), rest))

pub returns : goal.returns
returns c =
    let plans = c.args.plans.now in
    let kept = c.loop-plan.kept in
    c.loop-plan.invariant kept (omega arith, omega arith)
    (subst (AllKeep kept) (sym (drop_all c.loop-plan.plan-index plans (omega (arith, c.loop-plan-test.false)))) tt)
