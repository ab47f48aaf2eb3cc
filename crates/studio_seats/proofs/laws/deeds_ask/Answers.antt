-- The law is a lemma.
use Rattle.studio_seats.proofs.AskLemmas.{deeds_ask}
use Rattle.studio_seats.proofs.laws.deeds_ask.Goals as goal

pub returns : goal.returns
returns g c = deeds_ask g.S.Store g.V.Vault g.met.S.Store.may_fewer
