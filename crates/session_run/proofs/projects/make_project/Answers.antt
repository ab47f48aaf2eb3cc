-- What making a project does.
use Rattle.session_run.proofs.Common.{Ok, Err, subst, sym}
use Rattle.session_run.specs.Projects.{Created}
use Rattle.session_run.proofs.{ProjectLemmas.refused_as, StreamLemmas.prints}
use Rattle.session_run.proofs.projects.make_project.Goals as goal

pub returns-in-Err : goal.returns-in-Err
returns-in-Err g c = λ source.
    let e = c.in-Err.ensures in record {
      answer = Err c.in-Err.fault;
      created =
          subst (λ z. Created g.S.Store c.args.project c.args.store z (Err c.in-Err.fault)) (sym c.refuse.ensures.store)
          (record {
            any_moment = e.any_moment;
            made = λ tells. tt;
            answers = e.answer;
            honest = e.honest;
            durable = tt;
            cause = e.cause;
            left = e.left;
            changed = e.changed;
          });
      said = refused_as _ _ _ c.refuse.result c.call_fault.ensures c.refuse.ensures.printed c.refuse.ensures.done;
    }

pub returns-in-Ok : goal.returns-in-Ok
returns-in-Ok g c = λ source.
    let e = c.in-Ok.ensures in record {
      answer = Ok tt;
      created =
          subst (λ z. Created g.S.Store c.args.project c.args.store z (Ok tt)) (sym c.without_script.ensures.store)
          (record {
            any_moment = e.any_moment;
            made = e.done;
            answers = e.answer;
            honest = e.honest;
            durable = e.durable;
            cause = e.cause;
            left = e.left;
            changed = e.changed;
          });
      said = (
        prints _ _ _ _ _ _ c.write_made.ensures.cause c.write_made.ensures.bytes,
        c.without_script.ensures.done,
      );
    }
