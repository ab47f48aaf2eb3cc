-- The project is opened, and a script runs on it.
use Rattle.session_run.proofs.Common.{inl, inr, refl, core_of}
use Rattle.session_run.proofs.{ProjectLemmas.opens_not, StreamLemmas.unread}
use Rattle.session_run.proofs.running.run_project.Goals as goal

pub returns-in-Ok-clause-runs : goal.returns-in-Ok-clause-runs
returns-in-Ok-clause-runs g c = inl (core_of c.in-Ok.studio, c.in-Ok.ensures.opened, c.run_opened.ensures.runs)

pub returns-in-Err-clause-runs : goal.returns-in-Err-clause-runs
returns-in-Err-clause-runs g c =
    let not = opens_not _ c.refuse.result c.in-Err.ensures.refused c.refuse.ensures.store c.call_fault.ensures
    c.refuse.ensures.printed c.refuse.ensures.done in
    inr (not.0, not.1, not.2, (refl, refl), (refl, refl), refl)

pub returns-in-Err-clause-reads : goal.returns-in-Err-clause-reads
returns-in-Err-clause-reads g c = unread g.A.Source c.args.devices.streams.script.now
