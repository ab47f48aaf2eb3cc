-- The studio made the call, so the turn made the list longer by its deed.
use Rattle.studio_seats.proofs.Common.{[], refl, Done, Line, Undo, as_reply}
use Rattle.studio_seats.proofs.Turns.{fits_quiet, says_quiet}
use Rattle.studio_seats.proofs.desk.Desk.undo.Goals as goal

pub with-requires-clause-fits : goal.with-requires-clause-fits
with-requires-clause-fits g c =
    fits_quiet g.S.Store g.V.Vault _ _ _ _ (Line Undo) (λ s. as_reply (λ _. Done) s.what) refl (λ y is. is)
    (λ s f' x x' called. ([], called.called.met.0))

pub returns-clause-says : goal.returns-clause-says
returns-clause-says g c =
    says_quiet g.S.Store g.V.Vault _ _ _ _ (Line Undo) (λ s. as_reply (λ _. Done) s.what) refl _ _ _ _
    c.with.ensures.turned c.said_by.ensures
    (λ s x x' called. (([], called.called.met.0), called.called.met.1.0))
