-- The layouts after the first references.
use Rattle.edit_ops.proofs.Common.{List, subst, Clip, AreCopies}
use Rattle.edit_ops.proofs.RunLists.{layouts_take}
use Rattle.edit_ops.proofs.runs.copy.Goals as goal

pub returns-clause-copies : goal.returns-clause-copies
returns-clause-copies c =
    subst (λ (ts : List (List Clip)). AreCopies c.args.from c.args.to ts c.in_ok-strips.strips)
    (layouts_take c.args.n c.args.run.now) c.in_ok-strips.ensures
