-- The law is a lemma.
use Rattle.studio_seats.proofs.FaultLemmas.{desks_serve}
use Rattle.studio_seats.proofs.laws.deeds_are_served.Goals as goal

pub returns : goal.returns
returns g c = desks_serve g.S.Store g.V.Vault
