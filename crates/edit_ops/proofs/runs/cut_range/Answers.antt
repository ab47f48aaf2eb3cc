-- The layouts after the first references.
use Rattle.edit_ops.proofs.Common.{List, sym, subst, Clip, run_start_of, AllTracksHalfFull, AreCopies, AreCuts, layouts}
use Rattle.edit_ops.proofs.Common.{removed}
use Rattle.edit_ops.proofs.RunLists.{half_full_take, layouts_take}
use Rattle.edit_ops.proofs.runs.cut_range.Goals as goal

pub cut_tracks-requires-clause-half_full : goal.cut_tracks-requires-clause-half_full
cut_tracks-requires-clause-half_full c =
    let P : List (List Clip) → Type 0 = AllTracksHalfFull c.args.planner.block_size in
    subst P (sym (layouts_take c.args.n c.args.run.now))
    (half_full_take c.args.planner.block_size c.args.n (layouts c.args.run.now) c.requires.half_full)

pub returns-clause-copies : goal.returns-clause-copies
returns-clause-copies c =
    subst (λ (ts : List (List Clip)). AreCopies c.args.from c.args.to ts c.in_ok-cut.cut.0)
    (layouts_take c.args.n c.args.run.now) c.in_ok-cut.ensures.copies

pub returns-clause-plans : goal.returns-clause-plans
returns-clause-plans c =
    subst (λ (ts : List (List Clip)). AreCuts (removed c.args.removing c.args.from c.args.to)
    (run_start_of c.args.planner) ts c.in_ok-cut.cut.1)
    (layouts_take c.args.n c.args.run.now) c.in_ok-cut.ensures.plans
