-- What three seats have seen together.
use Rattle.std.proofs.Common.{◌≡◌, ◌≢◌, ℕ, ◌+◌, ◌<◌, ◌≤◌, ◌==◌, ◌||◌, if◌then◌else◌, Bool, true, false, List, [], ◌∷◌}
use Rattle.std.proofs.Common.{◌++◌, length, sym, ◌∙◌, ap, subst, refl, arith}
use Rattle.std.proofs.lemmas.List.{length-append}
use Rattle.pin_turn.specs.{Counts.Each, Counts.times, Rule.ByOthers}
use Rattle.pin_turn.proofs.Sums.{times-append}
use Rattle.studio_seats.specs.{declared.deed.Deed.Deed, Deeds.actor_of, Merge.by_seat, Onward.places_of}
use Rattle.studio_seats.proofs.{FreeingLemmas.same_seat, OnwardLemmas.places_append}
use Rattle.desk_session.specs.Makers.{Apart, Made, Parts, PartsMade, Seats}
use Rattle.desk_session.proofs.MakerLemmas.{each_has, sum_of, times_if}

pub places_behind : (kind : Deed → Bool) (xs more : List Deed)
    → places_of kind 0 (xs ++ more) ≡ places_of kind 0 xs ++ places_of kind (length xs) more
places_behind kind xs more =
    places_append kind 0 xs more ∙ ap (λ (n : ℕ). places_of kind 0 xs ++ places_of kind n more) (omega arith)

no_later : (kind : Deed → Bool) (n k : ℕ) (es : List Deed) → k + length es ≤ n → times n (places_of kind k es) ≡ 0
no_later kind n k [] h = refl
no_later kind n k (e ∷ es) h =
    let later = no_later kind n (k + 1) es (omega (arith, h)) in
    let here = times_if (kind e) k n (omega (arith, h)) in
    let both = times-append n (if kind e then k ∷ [] else []) (places_of kind (k + 1) es) in
    omega (arith, later, here, both)

times_of : (kind : Deed → Bool) (n : ℕ) (xs more : List Deed)
    → times n (places_of kind 0 (xs ++ more))
    ≡ times n (places_of kind 0 xs) + times n (places_of kind (length xs) more)
times_of kind n xs more =
    ap (times n) (places_behind kind xs more) ∙ times-append n (places_of kind 0 xs) (places_of kind (length xs) more)

longer_has : (kind : Deed → Bool) (n : ℕ) (es xs more : List Deed) → es ≡ xs ++ more
    → times n (places_of kind 0 xs) ≤ times n (places_of kind 0 es)
longer_has kind n es xs more is =
    let both = times_of kind n xs more in
    let same : times n (places_of kind 0 es) ≡ times n (places_of kind 0 (xs ++ more)) =
    ap (λ (l : List Deed). times n (places_of kind 0 l)) is in omega (arith, both, same)

other : (a n : ℕ) → a ≢ n → times n (a ∷ []) ≡ 0
other a n h = by_test (a == n) refl
  where
    by_test : (b : Bool) → (a == n) ≡ b → times n (a ∷ []) ≡ 0
    by_test true is = absurd (h (same_seat a n is))
    by_test false is = ap (λ (b : Bool). (if b then 1 else 0) + 0) is

not_its : (a b c actor : ℕ) → a ≢ b → a ≢ c → (x y : Bool) → (b == actor) ≡ x → (c == actor) ≡ y
    → (x || (y || y)) ≡ true → times actor (a ∷ []) ≡ 0
not_its a b c actor ab ac true y is is' h = other a actor (subst (λ (n : ℕ). a ≢ n) (same_seat b actor is) ab)
not_its a b c actor ab ac false true is is' h = other a actor (subst (λ (n : ℕ). a ≢ n) (same_seat c actor is') ac)
not_its a b c actor ab ac false false is is' h = cc

all_others : (a b c : ℕ) → a ≢ b → a ≢ c → (es : List Deed)
    → Each (λ e. (by_seat b e || (by_seat c e || by_seat c e)) ≡ true) es → ByOthers actor_of (a ∷ []) es
all_others a b c ab ac [] h = tt
all_others a b c ab ac (e ∷ es) h =
    (not_its a b c e.actor ab ac (by_seat b e) (by_seat c e) refl refl h.0, all_others a b c ab ac es h.1)

-- after what a seat has seen at last, all is by the two others
others_after : (a b c : ℕ) → a ≢ b → a ≢ c → (es xs more : List Deed) → es ≡ xs ++ more
    → ((n : ℕ) → length xs ≤ n → n < length es
    → 1 ≤ times n (places_of (by_seat b) 0 es) + times n (places_of (by_seat c) 0 es)) → ByOthers actor_of (a ∷ []) more
others_after a b c ab ac es xs more is h = all_others a b c ab ac more
    (each_has (by_seat b) (by_seat c) (by_seat c) (length xs) more (λ n low high.
    let len : length es ≡ length xs + length more = ap length is ∙ length-append xs more in
    let one = h n low (omega (arith, high, len)) in
    let x : times n (places_of (by_seat b) 0 es)
    ≡ times n (places_of (by_seat b) 0 xs) + times n (places_of (by_seat b) (length xs) more) =
    ap (λ (l : List Deed). times n (places_of (by_seat b) 0 l)) is ∙ times_of (by_seat b) n xs more in
    let y : times n (places_of (by_seat c) 0 es)
    ≡ times n (places_of (by_seat c) 0 xs) + times n (places_of (by_seat c) (length xs) more) =
    ap (λ (l : List Deed). times n (places_of (by_seat c) 0 l)) is ∙ times_of (by_seat c) n xs more in
    let u = no_later (by_seat b) n 0 xs (omega (arith, low)) in
    let v = no_later (by_seat c) n 0 xs (omega (arith, low)) in omega (arith, one, x, y, u, v)))

-- each place of the list is a turn of one of three seats; so after what the first has seen, all is by the others
by_others : (a b c : ℕ) (es x y z more more_y more_z : List Deed) → a ≢ b → a ≢ c → es ≡ x ++ more → es ≡ y ++ more_y
    → es ≡ z ++ more_z → ((n : ℕ) → n < length es → 1 ≤ times n (places_of (by_seat a) 0 x)
    + times n (places_of (by_seat b) 0 y) + times n (places_of (by_seat c) 0 z)) → ByOthers actor_of (a ∷ []) more
by_others a b c es x y z more more_y more_z ab ac x_is y_is z_is has =
    others_after a b c ab ac es x more x_is (λ n low high.
    let one = has n high in
    let none = no_later (by_seat a) n 0 x (omega (arith, low)) in
    let two = longer_has (by_seat b) n es y more_y y_is in
    let three = longer_has (by_seat c) n es z more_z z_is in omega (arith, one, none, two, three))

flip : (a b : ℕ) → a ≢ b → b ≢ a
flip a b h e = h (sym e)

module _ (s : Seats) (apart : Apart s) (es : List Deed) (p : Parts s es) where
  has : (n : ℕ) → n < length es
      → 1 ≤ times n (places_of (by_seat s.script) 0 p.script) + times n (places_of (by_seat s.recorder) 0 p.recorder)
      + times n (places_of (by_seat s.player) 0 p.player)
  has n low =
      let one = sum_of n (length es) (places_of (by_seat s.script) 0 p.script) (places_of (by_seat s.player) 0 p.player)
      (places_of (by_seat s.recorder) 0 p.recorder) p.mine low p.counts p.mine_is in omega (arith, one)

  made : Made s es p
  made = record {
    all = each_has (by_seat s.script) (by_seat s.recorder) (by_seat s.player) 0 es (λ n low high.
        let one = has n (omega (arith, high)) in
        let x = longer_has (by_seat s.script) n es p.script p.more_script p.script_is in
        let y = longer_has (by_seat s.recorder) n es p.recorder p.more_recorder p.recorder_is in
        let z = longer_has (by_seat s.player) n es p.player p.more_player p.player_is in omega (arith, one, x, y, z));
    script = by_others s.script s.recorder s.player es p.script p.recorder p.player p.more_script p.more_recorder
        p.more_player apart.script_recorder apart.script_player p.script_is p.recorder_is p.player_is has;
    recorder = by_others s.recorder s.script s.player es p.recorder p.script p.player p.more_recorder p.more_script
        p.more_player (flip s.script s.recorder apart.script_recorder) apart.recorder_player p.recorder_is p.script_is
        p.player_is (λ n low. let one = has n low in omega (arith, one));
    player = by_others s.player s.script s.recorder es p.player p.script p.recorder p.more_player p.more_script
        p.more_recorder (flip s.script s.player apart.script_player) (flip s.recorder s.player apart.recorder_player)
        p.player_is p.script_is p.recorder_is (λ n low. let one = has n low in omega (arith, one));
  }

pub parts_made : PartsMade
parts_made s es p apart = made s apart es p
