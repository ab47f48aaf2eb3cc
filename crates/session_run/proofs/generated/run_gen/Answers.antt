-- The sum of the script is printed.
use Rattle.session_run.proofs.Common.{inl}
use Rattle.session_run.proofs.StreamLemmas.{prints}
use Rattle.session_run.proofs.generated.run_gen.Goals as goal

pub returns-in-Ok-clause-sum : goal.returns-in-Ok-clause-sum
returns-in-Ok-clause-sum g c = λ source. inl (record {
  sum = c.in-Ok.sum;
  ran = c.in-Ok.ensures;
  printed = prints _ _ _ _ _ _ c.write_summary.ensures.cause c.write_summary.ensures.bytes;
  done_is = c.without_script.ensures.done;
})
