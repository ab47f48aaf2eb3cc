-- The first seat has seen nothing yet.
use Rattle.std.proofs.Common.{◌≡◌, ap}
use Rattle.disk_model.specs.declared.store.Store.{Ghosts}
use Rattle.pin_turn.specs.{Views.first_view, declared.view.View.View}
use Rattle.studio_seats.specs.{Desks.IsFirst, declared.deed.Deed.Deed, declared.held.Held.Held}

pub first_is : {D V : Type 0} {disk : Ghosts D} (v : View (Held D V disk) Deed) (h : Held D V disk)
    → v ≡ first_view h → IsFirst v
first_is {D} {V} {disk} v h e = record {
  number = ap (λ (w : View (Held D V disk) Deed). w.number) e;
  seen = ap (λ (w : View (Held D V disk) Deed). w.seen) e;
  mine = ap (λ (w : View (Held D V disk) Deed). w.mine) e;
  away = ap (λ (w : View (Held D V disk) Deed). w.away) e;
  unspent = ap (λ (w : View (Held D V disk) Deed). w.used_up) e;
}
