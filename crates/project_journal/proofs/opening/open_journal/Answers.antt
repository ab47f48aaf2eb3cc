-- The syncs, and then reads alone.
use Rattle.project_journal.proofs.Common.{refl, arith, exit_err, changed_kept, changed_then_stays}
use Rattle.project_journal.proofs.Choices.{opens_fault}
use Rattle.project_journal.proofs.opening.open_journal.Goals as goal

pub returns-in_err-sync_both-clause-some : goal.returns-in_err-sync_both-clause-some
returns-in_err-sync_both-clause-some g c =
    rw (exit_err c.from_residual.result c.from_residual.ensures.1) opens_fault

pub returns-clause-changed : goal.returns-clause-changed
returns-clause-changed g c =
    changed_then_stays {two = record { files = 0; bytes = 0; calls = 0 }}
    (omega arith) c.sync_both.ensures.changed
    (changed_kept (λ d. refl) c.start_chosen.ensures.kept)
