-- The facts of an opening, in one record.
use Rattle.session_run.proofs.opening.open_project.Goals as goal

pub returns-in-Ok-clause-opened : goal.returns-in-Ok-clause-opened
returns-in-Ok-clause-opened g c =
    let e = c.in-Ok.ensures in record {
      looks = record {
        opens = e.opens;
        honest = e.honest;
        cause = e.cause;
        reads = e.reads;
        changed = e.changed;
        stays_honest = e.stays_honest;
      };
      studio = e.studio;
      fresh = e.fresh;
      held = e.held;
      keeps = e.keeps;
    }

pub returns-in-Err-clause-refused : goal.returns-in-Err-clause-refused
returns-in-Err-clause-refused g c =
    let e = c.in-Err.ensures in record {
      opens = e.opens;
      honest = e.honest;
      cause = e.cause;
      reads = e.reads;
      changed = e.changed;
      stays_honest = e.stays_honest;
    }
