-- Pieces and the reclaims between them, list by list.
use Rattle.studio_seats.proofs.Common.{◌≡◌, ◌⊎◌, inl, inr, ℕ, ◌==◌, ◌&&◌, if◌then◌else◌, Bool, true, false, List}
use Rattle.studio_seats.proofs.Common.{[], ◌∷◌, ◌++◌, refl, sym, ap, arith, nat_tests, Call, Entry, Each}
use Rattle.studio_seats.proofs.Common.{entries_of, is_commit, raised_by, AreFreed, IsDue, IsFullReclaim, unfreed, Deed}
use Rattle.studio_seats.proofs.Common.{by_seat, deeds_of, Asks, piece_in, pieces_by, asks_piece}
use Rattle.studio_seats.specs.Freeing.{unfreed_by}

pub same_seat : (a b : ℕ) → (a == b) ≡ true → a ≡ b
same_seat a b h = grind (arith, nat_tests)

-- what a seat asked fits
pub asked_own : (fits : Call → Type 0) (seat : ℕ) (ds : List Deed) → Asks fits seat ds
    → Each (λ d. fits d.call) (deeds_of (by_seat seat) ds)
asked_own fits seat [] h = tt
asked_own fits seat (d ∷ ds) h = by (asked_own fits seat ds h.1) (seat == d.actor) refl
  where
    by : Each (λ d. fits d.call) (deeds_of (by_seat seat) ds) → (b : Bool) → (seat == d.actor) ≡ b
        → Each (λ d. fits d.call) ((if b then d ∷ [] else []) ++ deeds_of (by_seat seat) ds)
    by later true is = (h.0 (sym (same_seat seat d.actor is)), later)
    by later false is = later

pub unfreed_append : (n : ℕ) (xs ys : List Entry) → unfreed n (xs ++ ys) ≡ unfreed (unfreed n xs) ys
unfreed_append n [] ys = refl
unfreed_append n (e ∷ es) ys = unfreed_append (unfreed_by n e.call) es ys

-- a call that came after 64 pieces
full : (Last Other : Type 0) (n : ℕ) → (n ≡ 64) ⊎ (Last × (n ≡ 64)) → (n ≡ 64) ⊎ Other
full Last Other n (inl is) = inl is
full Last Other n (inr (last, is)) = inl is

pub freed_append : (ended : Bool) (n : ℕ) (xs ys : List Entry) → AreFreed false n xs
    → AreFreed ended (unfreed n xs) ys → AreFreed ended n (xs ++ ys)
freed_append ended n [] ys h k = k
freed_append ended n (e ∷ es) ys h k = (
  λ other. full (es ≡ []) ((es ++ ys ≡ []) × IsDue ended n) n (h.0 other),
  h.1,
  freed_append ended (unfreed_by n e.call) es ys h.2 k,
)

-- a recording that goes on is one that may end
pub freed_ended : (ended : Bool) (n : ℕ) (es : List Entry) → AreFreed false n es → AreFreed ended n es
freed_ended ended n [] h = tt
freed_ended ended n (e ∷ es) h = (
  λ other. full (es ≡ []) ((es ≡ []) × IsDue ended n) n (h.0 other),
  h.1,
  freed_ended ended (unfreed_by n e.call) es h.2,
)

pub none_by : (n : ℕ) (c : Call) → IsFullReclaim c → unfreed_by n c ≡ 0
none_by n c is = ap (unfreed_by n) is

-- a reclaim that is due
pub reclaim_frees : (ended : Bool) (n : ℕ) (d : Deed) → IsFullReclaim d.call → IsDue ended n
    → AreFreed ended n (entries_of (d ∷ []))
reclaim_frees ended n d is due =
    let none = none_by n d.call is in ((λ other. inr (refl, due)), omega (arith, none), tt)

pub no_piece_among : (ds : List Deed) → Each (λ d. IsFullReclaim d.call) ds → deeds_of asks_piece ds ≡ []
no_piece_among [] h = refl
no_piece_among (d ∷ ds) h =
    rw h.0 (no_piece_among ds h.1)

-- a seat that made reclaims alone added no pieces
pub no_pieces_by : (to by seat n : ℕ) (ds : List Deed) → Asks IsFullReclaim seat ds → pieces_by to by seat n ds ≡ []
no_pieces_by to by seat n [] h = refl
no_pieces_by to by seat n (d ∷ ds) h = at (seat == d.actor) refl (no_pieces_by to by seat m ds h.1)
  where
    m : ℕ
    m = raised_by d n

    either : (b : Bool) → IsFullReclaim d.call → (if b then piece_in to by d.call n else []) ≡ []
    either true is = ap (λ (c : Call). piece_in to by c n) is
    either false is = refl

    at : (b : Bool) → (seat == d.actor) ≡ b → pieces_by to by seat m ds ≡ []
        → (if b && is_commit d then piece_in to by d.call n else []) ++ pieces_by to by seat m ds ≡ []
    at true is later = rw (either (is_commit d) (h.0 (sym (same_seat seat d.actor is)))) later
    at false is later = later
