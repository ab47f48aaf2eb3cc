-- The law is a lemma.
use Rattle.session_run.proofs.Common.{telling, kinds}
use Rattle.studio_seats.proofs.AskLemmas.{deeds_ask}
use Rattle.session_run.proofs.ByReadLemmas.{runs_by_read}
use Rattle.session_run.proofs.by_read.runs_by_read.Goals as goal

pub returns : goal.returns
returns g c = runs_by_read (kinds g.S.Store g.V.Vault g.M.Source g.P.Sink)
    (deeds_ask g.S.Store telling g.met.S.Store.may_fewer)
