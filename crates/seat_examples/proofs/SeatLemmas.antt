-- A seat that split one off takes it in again.
use Rattle.std.proofs.Common.{◌≡◌, ◌<◌, if◌then◌else◌, Bool, true, false, List, [], ◌∷◌, ◌++◌, length, nat_lt, refl}
use Rattle.std.proofs.Common.{sym, ap, ◌∙◌, subst}
use Rattle.pcm_base.specs.declared.command.Call.{Call}
use Rattle.disk_model.specs.declared.store.Store.{Ghosts}
use Rattle.pin_turn.specs.{declared.view.View.View, Counts.longer, Counts.times, Rule.IsNewNumber, Views.joined}
use Rattle.pin_turn.proofs.Calls.{rejoins}
use Rattle.studio_seats.specs.{declared.deed.Deed.Deed, declared.held.Held.Held, Deeds.actor_of, Onward.Onward}
use Rattle.seat_examples.specs.Jobs.{StaysSeat}

either : (c : Bool) (xs a b : List Deed) → (more : List Deed) × ((if c then xs ++ b else xs ++ a) ≡ xs ++ more)
either true xs a b = (b, refl)
either false xs a b = (a, refl)

-- of two lists that go on from one, the longer goes on from it too
longer_on : (xs ys zs a b : List Deed) → ys ≡ xs ++ a → zs ≡ xs ++ b → (more : List Deed) × (longer ys zs ≡ xs ++ more)
longer_on xs ys zs a b p q =
    let c = nat_lt (length ys) (length zs) in
    let e = either c xs a b in
    (e.0, (λ i. if c then q i else p i) ∙ e.1)

module _ {D V : Type 0} {disk : Ghosts D} where
  -- a seat that went on is the one that it was
  pub stays_on : (fits : Call → Type 0) (v w : View (Held D V disk) Deed) → Onward fits v w → StaysSeat v w
  stays_on fits v w h = record { number = h.number; away = h.away; more = h.added; seen = h.seen }

  module _ (v v1 w1 o w2 : View (Held D V disk) Deed) (kept : v1 ≡ record v { away = v.away ++ o.number ∷ [] })
      (new : o ≡ record v { number = o.number; mine = []; away = [] }) (number : IsNewNumber actor_of v o.number) where
    -- it may take the other in
    pub may_rejoin : StaysSeat v1 w1 → StaysSeat o w2 → (0 < times w2.number w1.away) × (w2.away ≡ [])
    may_rejoin a b = let h = rejoins actor_of v v1 w1 o w2 kept new number a.away b.number b.away in (h.0, h.1)

    -- and is then the one that it was
    pub stays_rejoined : (w : View (Held D V disk) Deed) → w ≡ joined w1 w2 → StaysSeat v1 w1 → StaysSeat o w2
        → StaysSeat v w
    stays_rejoined w is a b =
        let h = rejoins actor_of v v1 w1 o w2 kept new number a.away b.number b.away in
        let one = a.seen ∙ ap (λ (z : View (Held D V disk) Deed). z.seen ++ a.more) kept in
        let two = b.seen ∙ ap (λ (z : View (Held D V disk) Deed). z.seen ++ b.more) new in
        let seen = longer_on v.seen w1.seen w2.seen a.more b.more one two in
        subst (StaysSeat v) (sym is) (record {
          number = a.number ∙ ap (λ (z : View (Held D V disk) Deed). z.number) kept;
          away = h.2;
          more = seen.0;
          seen = seen.1;
        })
