-- A look at one file, and then at the other.
use Rattle.editor_recovery.proofs.Common.{◌∙◌, kept_turn}
use Rattle.editor_recovery.proofs.Alone.{either_there}
use Rattle.editor_recovery.proofs.creating.is_there.Goals as goal

pub returns-clause-there : goal.returns-clause-there
returns-clause-there g c = λ tells.
    let files = g.S.Store.reads c.args.store.now in
    let kept = c.in_ok-first.ensures.kept in
    rw c.one_of.ensures
    (either_there files c.in_ok-first.first c.in_ok-second.second (c.in_ok-first.ensures.there tells)
    (rw kept.same_reads at (c.in_ok-second.ensures.there (kept.same_tells ∙ tells))))

pub returns-clause-kept : goal.returns-clause-kept
returns-clause-kept g c = kept_turn c.in_ok-first.ensures.kept c.in_ok-second.ensures.kept

pub returns-in_err-second-clause-kept : goal.returns-in_err-second-clause-kept
returns-in_err-second-clause-kept g c = kept_turn c.in_ok-first.ensures.kept c.in_err-second.ensures.kept
