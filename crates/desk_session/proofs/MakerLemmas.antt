-- Whose the deeds of a list are, by the places of the turns of three seats.
use Rattle.std.proofs.Common.{◌≡◌, ℕ, ◌+◌, ◌<◌, ◌≤◌, ◌||◌, if◌then◌else◌, Bool, true, false, List, [], ◌∷◌, ◌++◌}
use Rattle.std.proofs.Common.{length, refl, sym, ◌∙◌, ap, arith}
use Rattle.std.proofs.lemmas.Bool.Decides.{nat_tests}
use Rattle.pin_turn.specs.Counts.{Each, once_below, times}
use Rattle.pin_turn.proofs.Sums.{times-append}
use Rattle.studio_seats.specs.{declared.deed.Deed.Deed, Merge.deeds_of, Merge.one_if, Onward.places_of}

pub times_if : (b : Bool) (k n : ℕ) → k < n → times n (if b then k ∷ [] else []) ≡ 0
times_if true k n h = grind (arith, nat_tests)
times_if false k n h = refl

times_at : (b : Bool) (k : ℕ) → times k (if b then k ∷ [] else []) ≡ one_if b
times_at true k = grind (arith, nat_tests)
times_at false k = refl

before : (b : Bool) (n k : ℕ) → n < k → times n (if b then k ∷ [] else []) ≡ 0
before true n k h = grind (arith, nat_tests)
before false n k h = refl

-- nothing stands before the first place
no_earlier : (kind : Deed → Bool) (n k : ℕ) (es : List Deed) → n < k → times n (places_of kind k es) ≡ 0
no_earlier kind n k [] h = refl
no_earlier kind n k (e ∷ es) h =
    let later = no_earlier kind n (k + 1) es (omega (arith, h)) in
    let here = before (kind e) n k h in
    let both = times-append n (if kind e then k ∷ [] else []) (places_of kind (k + 1) es) in
    omega (arith, later, here, both)

at_first : (kind : Deed → Bool) (k : ℕ) (e : Deed) (es : List Deed)
    → times k (places_of kind k (e ∷ es)) ≡ one_if (kind e)
at_first kind k e es =
    let later = no_earlier kind k (k + 1) es (omega arith) in
    let here = times_at (kind e) k in
    let both = times-append k (if kind e then k ∷ [] else []) (places_of kind (k + 1) es) in
    omega (arith, later, here, both)

behind : (kind : Deed → Bool) (n k : ℕ) (e : Deed) (es : List Deed) → k < n
    → times n (places_of kind k (e ∷ es)) ≡ times n (places_of kind (k + 1) es)
behind kind n k e es h =
    let here = times_if (kind e) k n h in
    let both = times-append n (if kind e then k ∷ [] else []) (places_of kind (k + 1) es) in omega (arith, here, both)

some_of : (a b c : Bool) → 1 ≤ one_if a + one_if b + one_if c → (a || (b || c)) ≡ true
some_of true b c h = refl
some_of false true c h = refl
some_of false false true h = refl
some_of false false false h = absurd (omega (arith, h))

-- where a place of one of three kinds stands at each place of the list, each deed is of one of them
module _ (a b c : Deed → Bool) where
  pub each_has : (k : ℕ) (es : List Deed)
      → ((n : ℕ) → k ≤ n → n < k + length es
      → 1 ≤ times n (places_of a k es) + times n (places_of b k es) + times n (places_of c k es))
      → Each (λ e. (a e || (b e || c e)) ≡ true) es
  each_has k [] h = tt
  each_has k (e ∷ es) h =
      let now = h k (omega arith) (omega arith) in
      let x = at_first a k e es in let y = at_first b k e es in let z = at_first c k e es in (
        some_of (a e) (b e) (c e) (omega (arith, now, x, y, z)),
        each_has (k + 1) es (λ n low high.
            let later = h n (omega (arith, low)) (omega (arith, high)) in
            let x = behind a n k e es (omega (arith, low)) in
            let y = behind b n k e es (omega (arith, low)) in
            let z = behind c n k e es (omega (arith, low)) in omega (arith, later, x, y, z)),
      )

below_once : (k n : ℕ) → k < n → once_below k n ≡ 1
below_once k n h = grind (arith, nat_tests)

pub sum_of : (n len : ℕ) (a b c mine : List ℕ) → n < len → ((k : ℕ) → times k mine ≡ once_below k len)
    → mine ≡ (a ++ b) ++ c → 1 ≤ times n a + times n b + times n c
sum_of n len a b c mine low counts is =
    let total : times n ((a ++ b) ++ c) ≡ once_below n len = ap (times n) (sym is) ∙ counts n in
    let one = below_once n len low in
    let x = times-append n (a ++ b) c in
    let y = times-append n a b in omega (arith, total, one, x, y)

-- deeds of a kind alone are all
pub own_deeds : (kind : Deed → Bool) (es : List Deed) → Each (λ e. kind e ≡ true) es → deeds_of kind es ≡ es
own_deeds kind [] h = refl
own_deeds kind (e ∷ es) h =
    ap (λ (b : Bool). (if b then e ∷ [] else []) ++ deeds_of kind es) h.0
    ∙ ap (λ (l : List Deed). e ∷ l) (own_deeds kind es h.1)
