-- The lemma.
use Rattle.sound_bounce.proofs.TellLemmas.{bounces_tell}
use Rattle.sound_bounce.proofs.laws.bounces_tell.Goals as goal

pub returns : goal.returns
returns g c = bounces_tell g.S.Store g.V.Vault
