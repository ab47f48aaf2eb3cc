-- What is printed, by its count of faults.
use Rattle.session_run.proofs.StreamLemmas.{prints}
use Rattle.session_run.proofs.last.print_last.Goals as goal

pub returns : goal.returns
returns g c = prints _ _ _ _ _ _ c.write_last.ensures.cause c.write_last.ensures.bytes
