-- Blocks that are sorted by their ids, and of which each is kept once.
use Rattle.editor_views.proofs.Common.{◌≡◌, ◌≢◌, ◌∙◌, refl, sym, ap, subst, ℕ, zero, suc, ◌≤◌, ◌<◌, ◌==◌, List, []}
use Rattle.editor_views.proofs.Common.{◌∷◌, Bool, true, false, inl, inr, arith, All-from_recursion, Contains}
use Rattle.editor_views.proofs.Common.{AllByRecursion, BlockRef, all_so}
use Rattle.std.proofs.Common.{rules}
use Rattle.std.proofs.lemmas.Bool.{cases_Bool, eqb-true, eqb-false}
use Rattle.std.proofs.lemmas.List.Elements.{All-contains_itself, recursion_from_All}
use Rattle.std.proofs.lemmas.List.Kept.{Contains-dedup, Contains-from_dedup}
use Rattle.std.proofs.lemmas.List.Sorted.{Contains-permutation, IsPermutation-sym}
use Rattle.std.specs.Prelude.{◌&&◌, slice_index, slice_index_or}
use Rattle.std.specs.{Cmp.IsEquivalence, List.dedup, List.dedup_from, List.Sorted.IsNonDecreasingBy}
use Rattle.std.specs.{List.Sorted.IsPermutation, List.Sorted.IsStrictlyIncreasing}
use Rattle.editor_views.specs.Scans.{AreListed, HaveOneLength}
use Rattle.editor_state.specs.Studios.{ids_of}

-- no id is above one after it, and each is below those after it
abbrev pub Up : List BlockRef → Type 0
Up [] = Unit {0}
Up (b ∷ bs) = AllByRecursion (λ (c : BlockRef). b.id ≤ c.id) bs × Up bs

abbrev pub Over : List BlockRef → Type 0
Over [] = Unit {0}
Over (b ∷ bs) = AllByRecursion (λ (c : BlockRef). b.id < c.id) bs × Over bs

up_of : (bs : List BlockRef) → IsNonDecreasingBy (λ (b : BlockRef). b.id) bs → Up bs
up_of [] h = tt
up_of (b ∷ bs) h = (
  recursion_from_All (λ (c : BlockRef). b.id ≤ c.id) bs (λ k d lt. h 0 (suc k) d (omega arith) (omega (arith, lt))),
  up_of bs (λ i j d le lt. h (suc i) (suc j) d (omega (arith, le)) (omega (arith, lt))),
)

up_at : (bs : List BlockRef) → Up bs → IsNonDecreasingBy (λ (b : BlockRef). b.id) bs
up_at [] up i j d le lt = absurd (omega (arith, lt))
up_at (b ∷ bs) up zero zero d le lt = omega arith
up_at (b ∷ bs) up zero (suc k) d le lt = All-from_recursion (λ (c : BlockRef). b.id ≤ c.id) bs up.0 k d
    (omega (arith, lt))
up_at (b ∷ bs) up (suc i) zero d le lt = absurd (omega (arith, le))
up_at (b ∷ bs) up (suc i) (suc j) d le lt = up_at bs up.1 i j d (omega (arith, le)) (omega (arith, lt))

over_at : (bs : List BlockRef) → Over bs → IsStrictlyIncreasing (ids_of bs)
over_at [] o k lt = absurd (omega (arith, lt))
over_at (b ∷ []) o k lt = absurd (omega (arith, lt))
over_at (b ∷ c ∷ bs) o zero lt = o.0.0
over_at (b ∷ c ∷ bs) o (suc k) lt = search (rules, slice_index, over_at (c ∷ bs) o.1 k (omega (arith, lt)))

all_in : (bs xs : List BlockRef) → ((b : BlockRef) → Contains xs b → Contains bs b) → AllByRecursion (Contains bs) xs
all_in bs xs f = recursion_from_All (Contains bs) xs
    (λ k d lt. f (slice_index_or xs k d) (All-contains_itself xs k d lt))

-- whether two are the same
abbrev pub is_same : BlockRef → BlockRef → Bool
is_same x y = x.id == y.id && x.len == y.len

same_both : (x y : BlockRef) → is_same x y ≡ true → x ≡ y
same_both x y e = search (rules, eqb-true)

number_itself : (n : ℕ) → n == n ≡ true
number_itself n = elim (cases_Bool (n == n)) [ inl t ↦ t | inr f ↦ absurd (eqb-false n n f refl) ]

same_itself : (x : BlockRef) → is_same x x ≡ true
same_itself x = ap (λ (t : Bool). t && (x.len == x.len)) (number_itself x.id) ∙ number_itself x.len

alike : (x y : BlockRef) → x ≡ y → is_same x y ≡ true
alike x y e = subst (λ (z : BlockRef). is_same x z ≡ true) e (same_itself x)

same_back : (x y : BlockRef) → is_same x y ≡ is_same y x
same_back x y = search (rules, cases_Bool, alike, same_both)

same_is : IsEquivalence is_same
same_is = search (rules, same_itself, same_back, same_both)

module _ (E : BlockRef → BlockRef → Bool) (is : IsEquivalence E) (same : (x y : BlockRef) → E x y ≡ true → x ≡ y)
    (alike : (x y : BlockRef) → x ≡ y → E x y ≡ true) where
  all_from : (P : BlockRef → Type 0) (k : BlockRef) (xs : List BlockRef) → P k → AllByRecursion P xs
      → AllByRecursion P (dedup_from E k xs)
  all_from P k [] p all = (p, tt)
  all_from P k (x ∷ xs) p all = search (rules, dedup_from, all_from P k xs p all.1, all_from P x xs all.0 all.1)

  up_from : (k : BlockRef) (xs : List BlockRef) → AllByRecursion (λ (c : BlockRef). k.id ≤ c.id) xs → Up xs
      → Up (dedup_from E k xs)
  up_from k [] all up = (tt, tt)
  up_from k (x ∷ xs) all up = search (rules, dedup_from, all_from, up_from k xs all.1 up.1, up_from x xs up.0 up.1)

  up_once : (xs : List BlockRef) → Up xs → Up (dedup E xs)
  up_once [] up = tt
  up_once (x ∷ xs) up = up_from x xs up.0 up.1

  module _ (bs : List BlockRef) (one : HaveOneLength bs) where
    apart : (k x : BlockRef) → Contains bs k → Contains bs x → k.id ≤ x.id → E x k ≡ false → k.id < x.id
    apart k x hk hx le e =
        let other : k.id ≢ x.id = λ i.
        let alike' : x ≡ k = λ j. record { id = sym i j; len = sym (one k x hk hx i) j } in
        let no : true ≡ false = sym (alike x k alike') ∙ e in absurd cc in
        omega (arith, le, other)

    over_from : (k : BlockRef) (xs : List BlockRef) → Contains bs k → AllByRecursion (Contains bs) xs
        → AllByRecursion (λ (c : BlockRef). k.id ≤ c.id) xs → Up xs → Over (dedup_from E k xs)
    over_from k [] hk hs all up = (tt, tt)
    over_from k (x ∷ xs) hk hs all up =
        search (
          rules,
          dedup_from,
          apart,
          all_from,
          all_so,
          over_from k xs hk hs.1 all.1 up.1,
          over_from x xs hs.0
              hs.1 up.0 up.1,
        )

    over_once : (xs : List BlockRef) → AllByRecursion (Contains bs) xs → Up xs → Over (dedup E xs)
    over_once [] hs up = tt
    over_once (x ∷ xs) hs up = over_from x xs hs.0 hs.1 up.0 up.1

  listed : (bs xs : List BlockRef) → IsPermutation bs xs → IsNonDecreasingBy (λ (b : BlockRef). b.id) xs
      → AreListed bs (dedup E xs)
  listed bs xs moved rising =
      let up = up_of xs rising in
      let back : (b : BlockRef) → Contains xs b
      → Contains bs b = λ b h. Contains-permutation xs bs b (IsPermutation-sym bs xs moved) h in
      record {
        rising = up_at (dedup E xs) (up_once xs up);
        same = λ b. (
          λ h. back b (Contains-from_dedup E xs b h),
          λ h. Contains-dedup is same xs b (Contains-permutation bs xs b moved h),
        );
        once = λ one. over_at (dedup E xs) (over_once bs one xs (all_in bs xs back) up);
      }

-- blocks that were sorted, and of which each was kept once
pub are_listed : (bs xs : List BlockRef) → IsPermutation bs xs → IsNonDecreasingBy (λ (b : BlockRef). b.id) xs
    → AreListed bs (dedup is_same xs)
are_listed bs xs moved rising = listed is_same same_is same_both alike bs xs moved rising
