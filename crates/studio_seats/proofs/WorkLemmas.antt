-- The own deeds of a seat that goes on, and how they end.
use Rattle.studio_seats.proofs.Common.{◌≡◌, inl, inr, ℕ, Bool, true, List, [], ◌∷◌, ◌++◌, Option, Some, None, ◌∙◌}
use Rattle.studio_seats.proofs.Common.{append_assoc, Call, Refusal, Ghosts, View, ByOthers, Held, Deed}
use Rattle.studio_seats.proofs.Common.{actor_of, by_seat, deeds_of, Asks, EndsBy, Onward}
use Rattle.studio_seats.proofs.MergeLemmas.{own_order}

-- after one turn more
pub own_turn : {D V : Type 0} {disk : Ghosts D} (fits : Call → Type 0) (a v : View (Held D V disk) Deed)
    (h : Onward fits a v)
    (between : List Deed) (d : Deed) → d.actor ≡ v.number → ByOthers actor_of (v.number ∷ []) between
    → deeds_of (by_seat a.number) (h.added ++ (between ++ d ∷ [])) ≡ deeds_of (by_seat a.number) h.added ++ d ∷ []
own_turn fits a v h between d own others =
    rw (← (append_assoc h.added between (d ∷ [])))
    (own_order a.number h.added between d (own ∙ h.number) (rw h.number at others))

-- what fits, fits in other words
abbrev pub asks_as : (one two : Call → Type 0) → ((c : Call) → one c → two c) → (seat : ℕ) (ds : List Deed)
    → Asks one seat ds → Asks two seat ds
asks_as one two f seat [] h = tt
asks_as one two f seat (d ∷ ds) h = ((λ is. f d.call (h.0 is)), asks_as one two f seat ds h.1)

abbrev pub onward_as : {D V : Type 0} {disk : Ghosts D} (one two : Call → Type 0) (v w : View (Held D V disk) Deed)
    → ((c : Call) → one c → two c) → Onward one v w → Onward two v w
onward_as one two v w f h = record {
  added = h.added;
  seen = h.seen;
  asks = asks_as one two f v.number h.added h.asks;
  number = h.number;
  away = h.away;
  mine = h.mine;
  used_up = h.used_up;
}

-- a seat that found that no turn is left still knows
pub ends_later : (a b : Bool) (refused : Option Refusal) (ds : List Deed) → (a ≡ true → b ≡ true)
    → EndsBy a refused ds → EndsBy b refused ds
ends_later a b None ds later h = h
ends_later a b (Some why) ds later (inl h) = inl h
ends_later a b (Some why) ds later (inr h) =
    inr (record { each = h.each; spent_is = h.spent_is; found = later h.found })
