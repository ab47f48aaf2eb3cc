-- The goals of `paste_each` that the search leaves open.
use Rattle.edit_ops.proofs.Common.{◌≡◌, ℕ, ◌+◌, ◌<◌, List, [], ◌∷◌, ◌++◌, length, take, sym, ap, ap₂, subst, ◌∙◌, arith}
use Rattle.edit_ops.proofs.Common.{take_more, placed, placed_length, AllHalfFull, end_of, Item, Clip, strip_len}
use Rattle.edit_ops.proofs.Common.{run_start_of, IsClip, IsPaste, layouts}
use Rattle.edit_ops.proofs.RunLists.{half_full_at, clip_at, length_at, ArePastes-push, next_of-push, layouts_at}
use Rattle.edit_ops.proofs.RunLists.{layouts_more, length-layouts}
use Rattle.edit_ops.proofs.runs.paste_each.Goals as goal

pub plan_placed-requires-clause-half_full : goal.plan_placed-requires-clause-half_full
plan_placed-requires-clause-half_full c =
    let P : List Clip → Type 0 = AllHalfFull c.args.planner.block_size in
    let run = c.args.run.now in
    let t = c.index-run-i.result in
    subst P (sym (layouts_at run c.loop-i.i t (omega arith) c.index-run-i.is))
    (half_full_at c.args.planner.block_size (layouts run) c.loop-i.i t.now (omega (arith, length-layouts run))
    c.requires.half_full)

pub plan_placed-requires-clause-clip : goal.plan_placed-requires-clause-clip
plan_placed-requires-clause-clip c =
    let P : List Item → Type 0 = IsClip c.args.planner.block_size in
    subst P (sym c.index-clip-i.is)
    (clip_at c.args.planner.block_size c.args.clip.now c.loop-i.i c.index-clip-i.result (omega arith) c.requires.clips)

pub plan_placed-requires-clause-few : goal.plan_placed-requires-clause-few
plan_placed-requires-clause-few c =
    let run = c.args.run.now in
    let t = c.index-run-i.result in
    let f = length_at c.args.placing c.args.at c.args.clip.now (layouts run) c.loop-i.i c.index-clip-i.result t.now
    (omega arith) (omega (arith, length-layouts run)) c.requires.few in
    let e = ap₂ (λ (x : List Item) (y : List Clip). placed_length c.args.placing c.args.at (strip_len x) (end_of 0 y))
    c.index-clip-i.is (layouts_at run c.loop-i.i t (omega arith) c.index-run-i.is) in
    omega (arith, f, e)

pub invariant_of-here-clause-room : goal.invariant_of-here-clause-room
invariant_of-here-clause-room c = omega arith

pub loop-i-preserved : goal.loop-i-preserved
loop-i-preserved c =
    let run = c.args.run.now in
    let clip = c.args.clip.now in
    let i = c.loop-i.i in
    let t = c.index-run-i.result.now in
    let s = c.index-clip-i.result in
    let p = c.in_ok-plan.plan in
    let plans = c.loop-i.plans.items in
    let edit = placed c.args.placing c.args.at in
    let start = run_start_of c.args.planner in
    let inv = c.loop-i.invariant in
    let h : i < length clip = omega arith in
    let k : i < length run = omega arith in
    let e = layouts_more run i c.index-run-i.result k c.index-run-i.is in
    let f : take (i + 1) clip ≡ take i clip ++ s ∷ [] =
    take_more clip i s h ∙ ap (λ (x : List Item). take i clip ++ x ∷ []) (sym c.index-clip-i.is) in
    let Q : ℕ → Type 0 = λ n. IsPaste edit (record start { next = n }) s t p in
    rw (c.in_ok-push.ensures.items, e, f) (record {
      pastes = ArePastes-push edit start (take i clip) (take i (layouts run)) plans s t p inv.pastes
          (subst Q inv.same_id c.in_ok-plan.ensures);
      same_id = sym (next_of-push start.next plans p);
      few = omega (arith, inv.few, c.in_ok-plan.ensures.plan.next_id, c.in_ok-plan.ensures.few_made);
    })
