-- What the first sync brought to the disk stays there.
use Rattle.project_journal.proofs.Common.{◌∙◌, ap, sym, arith, on_ok_weaker, Files, upto_refl, changed_then_stays}
use Rattle.project_journal.proofs.Common.{changed_wider}
use Rattle.project_journal.proofs.opening.sync_both.Goals as goal

pub returns-clause-other : goal.returns-clause-other
returns-clause-other g c = on_ok_weaker c.sync_file.result (λ durable d now.
    let images = c.sync_file.ensures.changed.images in
    let e = images.from d (images.fewer _ _ d images.later (upto_refl _) now) in
    ap (λ (f : Files). f 1) e.2 ∙ c.in_ok-sync_other.ensures.other e.0 e.1
    ∙ sym (ap (λ (f : Files). f 1) c.sync_file.ensures.reads)) c.sync_file.ensures.durable

pub returns-in_err-sync_other-clause-changed : goal.returns-in_err-sync_other-clause-changed
returns-in_err-sync_other-clause-changed g c =
    changed_wider (λ d e s. s) (omega arith)
    c.sync_other.ensures.changed

pub returns-clause-changed : goal.returns-clause-changed
returns-clause-changed g c =
    changed_then_stays (omega arith)
    c.sync_other.ensures.changed c.sync_file.ensures.changed
