-- A sync of file 1, and then the gate.
use Rattle.project_journal.proofs.Common.{◌∙◌, sym, ap, subst, inr, arith, on_ok_weaker, Files, files_made, IsUnset}
use Rattle.project_journal.proofs.Common.{NoProject}
use Rattle.project_journal.proofs.Changes.{stays_changed, stays_then}
use Rattle.project_journal.proofs.Starts.{none_now, none_same, none_since, stays_since, then_since}
use Rattle.project_journal.proofs.creating.settle_both.Goals as goal

pub returns-in_err-sync_file-clause-any_moment : goal.returns-in_err-sync_file-clause-any_moment
returns-in_err-sync_file-clause-any_moment g c = λ tells unset.
    stays_since (NoProject 0) c.sync_file.ensures.changed.images

pub returns-clause-any_moment : goal.returns-clause-any_moment
returns-clause-any_moment g c = λ tells unset.
    then_since (NoProject 0) c.sync_file.ensures.changed.images c.settle.ensures.changed.images
    (c.settle.ensures.any_moment (c.sync_file.ensures.changed.tells ∙ tells)
    (subst (λ (f : Files). IsUnset c.args.shut (f 0)) (sym c.sync_file.ensures.reads) unset))

pub returns-clause-done : goal.returns-clause-done
returns-clause-done g c = λ tells unset.
    c.settle.ensures.done (c.sync_file.ensures.changed.tells ∙ tells)
    (subst (λ (f : Files). IsUnset c.args.shut (f 0)) (sym c.sync_file.ensures.reads) unset)

pub returns-clause-other : goal.returns-clause-other
returns-clause-other g c = λ tells none.
    let alone = subst (λ (f : Files). NoProject 1 f) (sym c.sync_file.ensures.reads) none in
    on_ok_weaker c.settle.result (λ durable. none_now c.settle.ensures.changed
    (λ d now. none_same 1 (g.S.Store.reads c.sync_file.new.store) d (c.in_ok-sync_file.ensures.durable d now) alone))
    c.settle.ensures.durable

pub returns-in_err-sync_file-clause-changed : goal.returns-in_err-sync_file-clause-changed
returns-in_err-sync_file-clause-changed g c =
    stays_changed (omega arith) c.sync_file.ensures.changed

pub returns-clause-changed : goal.returns-clause-changed
returns-clause-changed g c =
    let same = ap (λ (f : Files). files_made (f 0)) c.sync_file.ensures.reads in
    stays_then (λ d e s. s) (omega (arith, same))
    c.sync_file.ensures.changed c.settle.ensures.changed

pub returns-in_err-sync_file-clause-other_moment : goal.returns-in_err-sync_file-clause-other_moment
returns-in_err-sync_file-clause-other_moment g c = λ tells none.
    stays_since (NoProject 1) c.sync_file.ensures.changed.images

pub returns-clause-other_moment : goal.returns-clause-other_moment
returns-clause-other_moment g c = λ tells none.
    let alone = subst (λ (f : Files). NoProject 1 f) (sym c.sync_file.ensures.reads) none in
    then_since (NoProject 1) c.sync_file.ensures.changed.images c.settle.ensures.changed.images
    (λ d since. inr (none_since c.settle.ensures.changed
    (λ e now. none_same 1 (g.S.Store.reads c.sync_file.new.store) e (c.in_ok-sync_file.ensures.durable e now) alone)
    d since))
