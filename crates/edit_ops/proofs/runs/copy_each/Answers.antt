-- The goals of `copy_each` that the search leaves open.
use Rattle.edit_ops.proofs.Common.{List, [], ◌∷◌, ◌++◌, take, sym, subst, Clip, AreCopies, layouts}
use Rattle.edit_ops.proofs.RunLists.{AreCopies-push, layouts_more}
use Rattle.edit_ops.proofs.runs.copy_each.Goals as goal

pub loop-t-preserved : goal.loop-t-preserved
loop-t-preserved c =
    let run = c.args.run.now in
    let i = c.loop-t.t-index in
    let t = c.t-item.result.now in
    let e = layouts_more run i c.t-item.result c.loop-t-test.true c.t-item.is in
    rw c.in_ok-push.ensures.items (
    let P : List (List Clip) → Type 0 =
    λ ts. AreCopies c.args.from c.args.to ts (c.loop-t.out.items ++ c.in_ok-copy_one.field-0 ∷ []) in
    subst P (sym e) (AreCopies-push c.args.from c.args.to (take i (layouts run)) c.loop-t.out.items t
    c.in_ok-copy_one.field-0 c.loop-t.invariant c.in_ok-copy_one.ensures))
