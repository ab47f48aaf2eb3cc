-- The project is opened, and its blocks are checked.
use Rattle.session_run.proofs.Common.{ℕ, Ok, Err, inl, inr, ap, subst, ◌∙◌, core_of, checked_text, Prints, from_sink}
use Rattle.session_run.proofs.Common.{change}
use Rattle.session_run.proofs.{ProjectLemmas.opens_not, ProjectLemmas.refused_as, StreamLemmas.prints}
use Rattle.session_run.proofs.projects.check_project.Goals as goal

pub returns-in-Ok-check : goal.returns-in-Ok-check
returns-in-Ok-check g c = λ source. inl (
    let s = from_sink g.O.Sink source (change c.args.out.now c.write_checked.new.out) in record {
      start = core_of c.in-Ok.studio;
      final = core_of c.check.new.studio;
      opens = c.in-Ok.ensures.opened;
      answer = Ok c.in-Ok-check.count;
      checks = c.in-Ok-check.ensures;
      store_is = c.without_script.ensures.store ∙ c.into_store.ensures;
      said = (
        subst (λ (n : ℕ). Prints s (checked_text c.in-Ok-check.count n))
            (c.commit_number.ensures ∙ ap (λ z. z.commit_number) c.check.ensures.same)
            (prints _ _ _ _ _ _ c.write_checked.ensures.cause c.write_checked.ensures.bytes),
        c.without_script.ensures.done,
      );
    })

pub returns-in-Err-check : goal.returns-in-Err-check
returns-in-Err-check g c = λ source. inl (record {
  start = core_of c.in-Ok.studio;
  final = core_of c.check.new.studio;
  opens = c.in-Ok.ensures.opened;
  answer = Err c.in-Err-check.fault;
  checks = c.in-Err-check.ensures;
  store_is = c.refuse.ensures.store ∙ c.into_store-in-Err-check.ensures;
  said = refused_as _ _ _ c.refuse.result c.call_fault.ensures c.refuse.ensures.printed c.refuse.ensures.done;
})

pub returns-in-Err : goal.returns-in-Err
returns-in-Err g c = λ source. inr (opens_not _ c.refuse-in-Err.result c.in-Err.ensures.refused
    c.refuse-in-Err.ensures.store c.call_fault-in-Err.ensures c.refuse-in-Err.ensures.printed
    c.refuse-in-Err.ensures.done)
