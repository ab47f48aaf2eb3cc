-- What is printed, by its count of faults.
use Rattle.session_run.proofs.StreamLemmas.{prints}
use Rattle.session_run.proofs.refusing.refuse.Goals as goal

pub returns-clause-printed : goal.returns-clause-printed
returns-clause-printed g c = prints _ _ _ _ _ _ c.write_refused.ensures.cause c.write_refused.ensures.bytes
