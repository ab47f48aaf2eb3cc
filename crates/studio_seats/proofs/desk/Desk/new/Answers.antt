-- At the start there is no deed.
use Rattle.studio_seats.proofs.Common.{ap, core_of, origin}
use Rattle.studio_seats.proofs.{Chains.begins, FirstSeat.first_is}
use Rattle.studio_seats.proofs.desk.Desk.new.Goals as goal

pub new-requires : goal.new-requires
new-requires g c = begins (origin g.S.Store g.V.Vault (core_of c.args.studio)) c.requires

pub returns-in-Ok-clause-ok : goal.returns-in-Ok-clause-ok
returns-in-Ok-clause-ok g c =
    let made = c.in-Ok.ensures.ok in
    (made.0, ap (λ h. core_of h.studio) made.1, first_is _ _ made.2)
