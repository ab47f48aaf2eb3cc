-- The goals of `cut_each` that the search leaves open.
use Rattle.edit_ops.proofs.Common.{ℕ, List, [], ◌∷◌, ◌++◌, take, sym, subst, arith, Clip, AllHalfFull, run_start_of}
use Rattle.edit_ops.proofs.Common.{AreCuts, IsCut, layouts, removed}
use Rattle.edit_ops.proofs.RunLists.{half_full_at, AreCuts-push, next_of-push, layouts_at, layouts_more, length-layouts}
use Rattle.edit_ops.proofs.runs.cut_each.Goals as goal

pub plan_removal-requires-clause-half_full : goal.plan_removal-requires-clause-half_full
plan_removal-requires-clause-half_full c =
    let P : List Clip → Type 0 = AllHalfFull c.args.planner.block_size in
    let run = c.args.run.now in
    let t = c.t-item.result in
    let i = c.loop-t.t-index in
    subst P (sym (layouts_at run i t c.loop-t-test.true c.t-item.is))
    (half_full_at c.args.planner.block_size (layouts run) i t.now
    (omega (arith, length-layouts run, c.loop-t-test.true)) c.requires.half_full)

pub invariant_of-here-clause-room : goal.invariant_of-here-clause-room
invariant_of-here-clause-room c =
    omega (arith, c.in_ok-plans.plans.small, c.in_ok-plans.ensures.exact, c.loop-t-test.true, c.loop-t.invariant.few)

pub loop-t-preserved : goal.loop-t-preserved
loop-t-preserved c =
    let run = c.args.run.now in
    let i = c.loop-t.t-index in
    let t = c.t-item.result.now in
    let p = c.in_ok-plan.plan in
    let plans = c.loop-t.plans.items in
    let edit = removed c.args.removing c.args.from c.args.to in
    let start = run_start_of c.args.planner in
    let inv = c.loop-t.invariant in
    let e = layouts_more run i c.t-item.result c.loop-t-test.true c.t-item.is in
    let P : List (List Clip) → Type 0 = λ ts. AreCuts edit start ts (plans ++ p ∷ []) in
    let Q : ℕ → Type 0 = λ n. IsCut edit (record start { next = n }) t p in
    rw c.in_ok-push.ensures.items (record {
      cuts = subst P (sym e) (AreCuts-push edit start (take i (layouts run)) plans t p inv.cuts
          (subst Q inv.same_id c.in_ok-plan.ensures));
      same_id = sym (next_of-push start.next plans p);
      few = omega (arith, inv.few, c.in_ok-plan.ensures.plan.next_id, c.in_ok-plan.ensures.few_made);
    })
