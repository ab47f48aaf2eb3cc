-- The law is a lemma.
use Rattle.script_reader.proofs.SpentLemmas.{scripts_spend}
use Rattle.script_reader.proofs.laws.scripts_spend.Goals as goal

pub returns : goal.returns
returns c = scripts_spend
