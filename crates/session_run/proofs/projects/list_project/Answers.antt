-- The project is opened, and told.
use Rattle.session_run.proofs.Common.{inl, inr, core_of}
use Rattle.session_run.proofs.ProjectLemmas.{opens_not}
use Rattle.session_run.proofs.projects.list_project.Goals as goal

pub returns-in-Ok : goal.returns-in-Ok
returns-in-Ok g c = λ source. inl (
  core_of c.in-Ok.studio,
  c.in-Ok.ensures.opened,
  c.list_opened.ensures.store,
  c.list_opened.ensures.listed source,
)

pub returns-in-Err : goal.returns-in-Err
returns-in-Err g c = λ source. inr (opens_not _ c.refuse.result c.in-Err.ensures.refused c.refuse.ensures.store
    c.call_fault.ensures c.refuse.ensures.printed c.refuse.ensures.done)
