-- The law is a lemma.
use Rattle.studio_seats.proofs.FaultLemmas.{faults_are_counted}
use Rattle.studio_seats.proofs.laws.faults_are_counted.Goals as goal

pub returns : goal.returns
returns c = faults_are_counted
