-- The law is a lemma.
use Rattle.studio_seats.proofs.Common.{origin}
use Rattle.studio_seats.proofs.Grown.{leads}
use Rattle.studio_seats.proofs.laws.deeds_lead.Goals as goal

pub returns : goal.returns
returns g c = λ start now deeds stands. leads (origin g.S.Store g.V.Vault start) now deeds stands
