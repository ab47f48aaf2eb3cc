-- The studio made the call, so the turn made the list longer by its deed.
use Rattle.studio_seats.proofs.Common.{[], ℕ, refl, ap, sym, Loaded, LoadPin, start_of, asked, tracks_in, silent}
use Rattle.studio_seats.proofs.Common.{as_reply}
use Rattle.studio_seats.proofs.{Grown.does_silent, Turns.fits, Turns.is_studio, Turns.says}
use Rattle.mixdown.specs.declared.loaded.Loaded as own
use Rattle.studio_seats.proofs.desk.Desk.load_pin.Goals as goal

pub with-requires-clause-fits : goal.with-requires-clause-fits
with-requires-clause-fits g c =
    fits g.S.Store g.V.Vault _ _ _ _ (λ _. LoadPin c.args.pin c.args.from c.args.n)
    (λ s f'. as_reply (λ (_ : ℕ). Loaded (tracks_in f'.3.now)) s.what) (λ f'. silent)
    (λ more x others stood y is. (
      is_studio g.S.Store g.V.Vault (start_of c.args.self.now.turn) x y.now _ stood is,
      (c.requires.most, c.requires.few),
    ))
    (λ s f' x x' called. does_silent g.S.Store _ _ (LoadPin c.args.pin c.args.from c.args.n) _ [] _ refl
    called.called.met.1.0)

pub returns-clause-says : goal.returns-clause-says
returns-clause-says g c = says g.S.Store g.V.Vault _ _ _ _ (λ _. LoadPin c.args.pin c.args.from c.args.n)
    (λ s f'. as_reply (λ (_ : ℕ). Loaded (tracks_in f'.3.now)) s.what) (λ f'. silent) _
    (λ s. asked (LoadPin c.args.pin c.args.from c.args.n) (as_reply (λ (_ : ℕ). Loaded (tracks_in c.loaded-1.given.0))
    s.what) silent) _ _ _ c.with.ensures.turned c.said_by.ensures
    (λ s x x' called. record {
      does = does_silent g.S.Store _ _ (LoadPin c.args.pin c.args.from c.args.n) _ [] _ refl called.called.met.1.0;
      number = called.called.met.1.1.0;
      is = ap (λ (z : own.Loaded). asked (LoadPin c.args.pin c.args.from c.args.n) (as_reply
          (λ (_ : ℕ). Loaded (tracks_in z)) s.what) silent) (sym (c.loaded-1.given.1 (sym called.called.met.0.3)));
    })
