-- To let a pin go is one call of the seat.
use Rattle.std.proofs.Common.{refl}
use Rattle.desk_session.proofs.{OpeningLemmas.lets_go, SideLemmas.where_none, SideLemmas.where_some}
use Rattle.desk_session.proofs.seats.let_go.Goals as goal

pub returns-in-Some-clause-goes : goal.returns-in-Some-clause-goes
returns-in-Some-clause-goes g c =
    where_some _ _ c.args.pin c.number.result c.in-Some.number c.number.ensures c.in-Some.is
    (lets_go _ _ _ _ _ c.in-Some.number c.unpin.result c.unpin.ensures.says)

pub returns-in-None-clause-goes : goal.returns-in-None-clause-goes
returns-in-None-clause-goes g c =
    where_none _ _ c.args.pin c.number.result c.number.ensures c.in-None.is refl
