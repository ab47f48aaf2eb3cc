-- The studio made the call, so the turn made the list longer by its deed.
use Rattle.studio_seats.proofs.Common.{[], List, refl, ap, sym, length, take, Frames, ReadPin, Frame, start_of, asked}
use Rattle.studio_seats.proofs.Common.{silent, as_reply}
use Rattle.studio_seats.proofs.{Grown.does_silent, Turns.fits, Turns.is_studio, Turns.says}
use Rattle.studio_seats.proofs.desk.Desk.read_pin.Goals as goal

pub with-requires-clause-fits : goal.with-requires-clause-fits
with-requires-clause-fits g c =
    fits g.S.Store g.V.Vault _ _ _ _ (λ _. ReadPin c.args.pin c.args.from (length c.args.out.now))
    (λ s f'. as_reply (λ n. Frames (take n f'.2.now)) s.what) (λ f'. silent)
    (λ more x others stood y is. is_studio g.S.Store g.V.Vault (start_of c.args.self.now.turn) x y.now _ stood is)
    (λ s f' x x' called. does_silent g.S.Store _ _ (ReadPin c.args.pin c.args.from (length c.args.out.now))
    _ [] _ refl called.called.met.1.0)

pub returns-clause-says : goal.returns-clause-says
returns-clause-says g c = says g.S.Store g.V.Vault _ _ _ _ (λ _. ReadPin c.args.pin c.args.from (length c.args.out.now))
    (λ s f'. as_reply (λ n. Frames (take n f'.2.now)) s.what) (λ f'. silent) _
    (λ s. asked (ReadPin c.args.pin c.args.from (length c.args.out.now)) (as_reply
    (λ n. Frames (take n c.out-1.given.0)) s.what) silent) _ _ _ c.with.ensures.turned c.said_by.ensures
    (λ s x x' called. record {
      does = does_silent g.S.Store _ _ (ReadPin c.args.pin c.args.from (length c.args.out.now)) _ [] _ refl
          called.called.met.1.0;
      number = called.called.met.1.1.0;
      is = ap (λ (z : List Frame). asked (ReadPin c.args.pin c.args.from (length c.args.out.now)) (as_reply
          (λ n. Frames (take n z)) s.what) silent) (sym (c.out-1.given.1.1 (sym called.called.met.0.2)));
    })
