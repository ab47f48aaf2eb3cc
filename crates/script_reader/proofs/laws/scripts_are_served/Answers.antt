-- What a script tells where no device fails.
use Rattle.script_reader.proofs.ServedLemmas as served
use Rattle.script_reader.proofs.laws.scripts_are_served.Goals as goal

pub returns : goal.returns
returns g c = served.scripts_serve g.S.Store g.V.Vault
