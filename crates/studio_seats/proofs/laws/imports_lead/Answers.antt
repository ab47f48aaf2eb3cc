-- The law is a lemma.
use Rattle.studio_seats.proofs.ImportLemmas.{imports_lead}
use Rattle.studio_seats.proofs.laws.imports_lead.Goals as goal

pub returns : goal.returns
returns g c = imports_lead g.S.Store g.V.Vault
