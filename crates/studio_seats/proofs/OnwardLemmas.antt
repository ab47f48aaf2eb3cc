-- A seat goes on, turn by turn.
use Rattle.studio_seats.proofs.Common.{◌≡◌, ℕ, ◌+◌, if◌then◌else◌, ◌==◌, Bool, true, List, [], ◌∷◌, ◌++◌}
use Rattle.studio_seats.proofs.Common.{length, refl, sym, ◌∙◌, ap, arith, append_assoc, eq-eqb, Result}
use Rattle.studio_seats.proofs.Common.{true≢false, append-nil, length-append, Reply, Call, SoundMove, Refusal, Said}
use Rattle.studio_seats.proofs.Common.{Ghosts, View, Each, ByOthers, Core, Says, Turned, asked, views, Held}
use Rattle.studio_seats.proofs.Common.{Deed, actor_of, deed, by_seat, Onward, Asks, origin, VaultGhosts, inl, inr}
use Rattle.studio_seats.specs.{Onward.places_of}
use Rattle.studio_seats.proofs.PieceLemmas.{not_mine}

pub each_append : (P : Deed → Type 0) (xs ys : List Deed) → Each P xs → Each P ys → Each P (xs ++ ys)
each_append P [] ys h k = k
each_append P (x ∷ xs) ys h k = (h.0, each_append P xs ys h.1 k)

pub places_append : (kind : Deed → Bool) (k : ℕ) (xs ys : List Deed)
    → places_of kind k (xs ++ ys) ≡ places_of kind k xs ++ places_of kind (k + length xs) ys
places_append kind k [] ys = ap (λ (n : ℕ). places_of kind n ys) (omega arith)
places_append kind k (x ∷ xs) ys =
    let here = if kind x then k ∷ [] else [] in
    let shift : k + 1 + length xs ≡ k + length (x ∷ xs) = omega arith in
    ap (λ (l : List ℕ). here ++ l)
    (places_append kind (k + 1) xs ys ∙ ap (λ (n : ℕ). places_of kind (k + 1) xs ++ places_of kind n ys) shift)
    ∙ sym (append_assoc here (places_of kind (k + 1) xs) (places_of kind (k + length (x ∷ xs)) ys))

-- deeds of others stand at no places of the seat
pub places_others : (seat k : ℕ) (more : List Deed) → ByOthers actor_of (seat ∷ []) more
    → places_of (by_seat seat) k more ≡ []
places_others seat k [] h = refl
places_others seat k (e ∷ es) h =
    rw (not_mine (seat == e.actor) h.0) (places_others seat (k + 1) es h.1)

pub asks_others : (fits : Call → Type 0) (seat : ℕ) (more : List Deed) → ByOthers actor_of (seat ∷ []) more
    → Asks fits seat more
asks_others fits seat [] h = tt
asks_others fits seat (e ∷ es) h = (
  λ is. absurd (true≢false (sym (eq-eqb seat e.actor (sym is)) ∙ not_mine (seat == e.actor) h.0)),
  asks_others fits seat es h.1,
)

pub one_place : (seat k : ℕ) (c : Call) (what : Result Reply Refusal) (sound : SoundMove)
    → places_of (by_seat seat) k (deed seat c what sound ∷ []) ≡ k ∷ []
one_place seat k c what sound = rw (eq-eqb seat seat refl)

module _ {D V : Type 0} (fits : Call → Type 0) where
  abbrev pub onward_self : {disk : Ghosts D} (v : View (Held D V disk) Deed) → Onward fits v v
  onward_self v = record {
    added = [];
    seen = sym (append-nil v.seen);
    asks = tt;
    number = refl;
    away = refl;
    mine = sym (append-nil v.mine);
    used_up = λ used. used;
  }

  abbrev pub onward_on : {disk : Ghosts D} (u v w : View (Held D V disk) Deed) → Onward fits u v → Onward fits v w
      → Onward fits u w
  onward_on u v w h k = record {
    added = h.added ++ k.added;
    seen = k.seen ∙ (ap (λ (l : List Deed). l ++ k.added) h.seen ∙ append_assoc u.seen h.added k.added);
    asks = each_append (λ e. e.actor ≡ u.number → fits e.call) h.added k.added h.asks
        (rw h.number at k.asks);
    number = k.number ∙ h.number;
    away = k.away ∙ h.away;
    mine = k.mine ∙ rw (
      h.mine,
      h.number,
      h.seen,
      length-append u.seen h.added,
      places_append (by_seat u.number) (length u.seen) h.added k.added,
    )
        (append_assoc u.mine (places_of (by_seat u.number) (length u.seen) h.added)
        (places_of (by_seat u.number) (length u.seen + length h.added) k.added));
    used_up = λ used. k.used_up (h.used_up used);
  }

  module _ (disk : Ghosts D) (vaults : VaultGhosts V) (start : Core D) (v w : View (Held D V disk) Deed) (c : Call)
      (what : Result Reply Refusal) (sound : SoundMove) where
    -- a turn was taken
    abbrev pub onward_taken : (at : ℕ) → fits c → Turned (origin disk vaults start) (asked c what sound) at (views v w)
        → Onward fits v w
    onward_taken at fit x =
        let e : Deed = deed v.number c what sound in
        record {
          added = x.between ++ e ∷ [];
          seen = rw x.view (append_assoc v.seen x.between (e ∷ []));
          asks = each_append (λ e. e.actor ≡ v.number → fits e.call) x.between (e ∷ [])
              (asks_others fits v.number x.between x.by_others) ((λ is. fit), tt);
          number = rw x.view;
          away = rw x.view;
          mine =
              let k = length v.seen in
              let at : length (v.seen ++ x.between) ≡ k + length x.between = length-append v.seen x.between in
              rw (
                x.view,
                at,
                places_append (by_seat v.number) k x.between (e ∷ []),
                places_others v.number k x.between x.by_others,
                one_place v.number (k + length x.between) c what sound,
              );
          used_up = λ used. rw x.view used;
        }

    -- none was left
    abbrev pub onward_spent : w ≡ record v { used_up = true } → Onward fits v w
    onward_spent is = record {
      added = [];
      seen = rw is (sym (append-nil v.seen));
      asks = tt;
      number = rw is;
      away = rw is;
      mine = rw is (sym (append-nil v.mine));
      used_up = λ used. rw is;
    }

    -- one call
    pub onward_turn : {A : Type 0} (said : Said A) → fits c
        → Says (origin disk vaults start) (asked c what sound) said (views v w) → Onward fits v w
    onward_turn said fit (inl x) = onward_taken said.at fit x
    onward_turn said fit (inr x) = onward_spent x.view
