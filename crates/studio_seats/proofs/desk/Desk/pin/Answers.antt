-- The studio made the call, so the turn made the list longer by its deed.
use Rattle.studio_seats.proofs.Common.{[], refl, Pinned, Pin, as_reply, known, start_at}
use Rattle.studio_seats.proofs.FrameLemmas.{pinned_made}
use Rattle.studio_seats.proofs.Turns.{fits_quiet, says_quiet}
use Rattle.studio_seats.proofs.desk.Desk.pin.Goals as goal

pub with-requires-clause-fits : goal.with-requires-clause-fits
with-requires-clause-fits g c =
    fits_quiet g.S.Store g.V.Vault _ _ _ _ Pin (λ s. as_reply Pinned s.what) refl (λ y is. is)
    (λ s f' x x' called. ([], called.called.met.0))

pub returns-clause-says : goal.returns-clause-says
returns-clause-says g c =
    says_quiet g.S.Store g.V.Vault _ _ _ _ Pin (λ s. as_reply Pinned s.what) refl _ _ _ _
    c.with.ensures.turned c.said_by.ensures
    (λ s x x' called. (([], called.called.met.0), called.called.met.1))

pub returns-clause-made : goal.returns-clause-made
returns-clause-made g c = pinned_made g.S.Store g.V.Vault (start_at c.args.self.now) (known c.args.seat.now)
    (known c.with.new.seat) c.said_by.result (returns-clause-says g c)
