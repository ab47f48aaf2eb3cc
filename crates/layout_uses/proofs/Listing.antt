-- Layouts that have a list, and those that have none.
use Rattle.layout_uses.proofs.Common.{◌≡◌, ⊎_elim, refl, sym, ap, ◌∙◌, subst, ℕ, ◌+◌, Bool, true, false, List, if◌then◌else◌}
use Rattle.layout_uses.proofs.Common.{[], ◌∷◌, ◌++◌, ◌⊎◌, Option, Some, None, cases_eq, ids_of, eqb}
use Rattle.layout_uses.proofs.Common.{Agree, AgreesWith, AreNumbered, IsListed, Track, has_number, layout_blocks, one_each}
use Rattle.layout_uses.proofs.Common.{unlisted}
use Rattle.std.proofs.Common.{◌≢◌, is_none}
use Rattle.std.specs.List.{AllByRecursion}
use Rattle.layout_uses.proofs.Layouts.{each_again, each_first, number_cases, number_here, number_other, times_in, times_used}

-- the ids of a list, if there is one
abbrev pub some_ids : Option (List ℕ) → List ℕ
some_ids None = []
some_ids (Some ids) = ids

true_false : true ≡ false → ⊥
true_false e = absurd cc

-- a layout that these tracks do not use
pub absent_here : (n : ℕ) (t : Track) (ts : List Track) → has_number n (t ∷ ts) ≡ false → t.number ≢ n
absent_here n t ts absent = λ same. true_false (sym (number_here n t ts same) ∙ absent)

pub absent_rest : (n : ℕ) (t : Track) (ts : List Track) → has_number n (t ∷ ts) ≡ false → has_number n ts ≡ false
absent_rest n t ts absent = sym (number_other n t ts (absent_here n t ts absent)) ∙ absent

pub absent_more : (n : ℕ) (t : Track) (ts : List Track) → t.number ≢ n → has_number n ts ≡ false
    → has_number n (t ∷ ts) ≡ false
absent_more n t ts ne absent = number_other n t ts ne ∙ absent

abbrev pub Listing : Type 0
Listing = ℕ → Option (List ℕ)

-- ---- the tracks whose layouts have no list

pub unlisted_here : (l : Listing) (t : Track) (ts : List Track) → is_none (l t.number) ≡ true
    → unlisted l (t ∷ ts) ≡ t ∷ unlisted l ts
unlisted_here l t ts is = rw is refl

pub unlisted_not : (l : Listing) (t : Track) (ts : List Track) → is_none (l t.number) ≡ false
    → unlisted l (t ∷ ts) ≡ unlisted l ts
unlisted_not l t ts is = rw is refl

pub has_unlisted : (l : Listing) (n : ℕ) (ts : List Track) → is_none (l n) ≡ true
    → has_number n (unlisted l ts) ≡ has_number n ts
has_unlisted l n [] is = refl
has_unlisted l n (t ∷ ts) is = ⊎_elim
    (λ none. ap (has_number n) (unlisted_here l t ts none)
    ∙ ap (λ (b : Bool). if eqb t.number n then true else b) (has_unlisted l n ts is))
    (λ some.
    let ne : t.number ≢ n = λ same. true_false (sym is ∙ ap (λ m. is_none (l m)) (sym same) ∙ some) in
    ap (has_number n) (unlisted_not l t ts some) ∙ has_unlisted l n ts is ∙ sym (number_other n t ts ne))
    (number_cases (is_none (l t.number)))

-- the list of a number that they do not use does not matter
pub unlisted_same : (l l' : Listing) (n : ℕ) (ts : List Track) → has_number n ts ≡ false
    → ((m : ℕ) → m ≢ n → l' m ≡ l m) → unlisted l' ts ≡ unlisted l ts
unlisted_same l l' n [] absent same = refl
unlisted_same l l' n (t ∷ ts) absent same =
    let here : is_none (l' t.number) ≡ is_none (l t.number) = ap is_none (same t.number (absent_here n t ts absent)) in
    let more = unlisted_same l l' n ts (absent_rest n t ts absent) same in
    (λ i. if here i then t ∷ more i else more i)

pub unlisted_append : (l : Listing) (xs ys : List Track) → unlisted l (xs ++ ys) ≡ unlisted l xs ++ unlisted l ys
unlisted_append l [] ys = refl
unlisted_append l (x ∷ xs) ys = ⊎_elim
    (λ none. unlisted_here l x (xs ++ ys) none ∙ ap (λ (z : List Track). x ∷ z) (unlisted_append l xs ys)
    ∙ ap (λ (z : List Track). z ++ unlisted l ys) (sym (unlisted_here l x xs none)))
    (λ some. unlisted_not l x (xs ++ ys) some ∙ unlisted_append l xs ys
    ∙ ap (λ (z : List Track). z ++ unlisted l ys) (sym (unlisted_not l x xs some)))
    (number_cases (is_none (l x.number)))

-- one track more in front: its blocks come where it has no list, and nothing before it uses its layout
pub alone_listed : (l : Listing) (id : ℕ) (t : Track) (ts : List Track) → is_none (l t.number) ≡ false
    → times_used id (unlisted l (t ∷ ts)) ≡ times_used id (unlisted l ts)
alone_listed l id t ts some = ap (times_used id) (unlisted_not l t ts some)

pub alone_again : (l : Listing) (id : ℕ) (t : Track) (ts : List Track) → has_number t.number ts ≡ true
    → times_used id (unlisted l (t ∷ ts)) ≡ times_used id (unlisted l ts)
alone_again l id t ts is = ⊎_elim
    (λ none. ap (times_used id) (unlisted_here l t ts none)
    ∙ each_again id t (unlisted l ts) (has_unlisted l t.number ts none ∙ is))
    (λ some. alone_listed l id t ts some)
    (number_cases (is_none (l t.number)))

pub alone_first : (l : Listing) (id : ℕ) (t : Track) (ts : List Track) → is_none (l t.number) ≡ true
    → has_number t.number ts ≡ false
    → times_used id (unlisted l (t ∷ ts)) ≡ times_in id t + times_used id (unlisted l ts)
alone_first l id t ts none absent = ap (times_used id) (unlisted_here l t ts none)
    ∙ each_first id t (unlisted l ts) (has_unlisted l t.number ts none ∙ absent)

-- ---- the lists

abbrev pub AreListed : Listing → List Track → Type 0
AreListed l ts = AllByRecursion (IsListed l) ts

pub one_again : (t : Track) (ts : List Track) → has_number t.number ts ≡ true → one_each (t ∷ ts) ≡ one_each ts
one_again t ts is = rw is refl

pub one_first : (t : Track) (ts : List Track) → has_number t.number ts ≡ false → one_each (t ∷ ts) ≡ t ∷ one_each ts
one_first t ts is = rw is refl

pub listed_same : (l l' : Listing) (n : ℕ) (ts : List Track) → has_number n ts ≡ false
    → ((m : ℕ) → m ≢ n → l' m ≡ l m) → AreListed l (one_each ts) → AreListed l' (one_each ts)
listed_same l l' n [] absent same all = tt
listed_same l l' n (t ∷ ts) absent same all = ⊎_elim
    (λ again. subst (AreListed l') (sym (one_again t ts again))
    (listed_same l l' n ts (absent_rest n t ts absent) same (subst (AreListed l) (one_again t ts again) all)))
    (λ first.
    let both = subst (AreListed l) (one_first t ts first) all in
    let here : l t.number ≡ l' t.number = sym (same t.number (absent_here n t ts absent)) in
    subst (AreListed l') (sym (one_first t ts first)) (
      subst (λ (o : Option (List ℕ)). (o ≡ None) ⊎ (o ≡ Some (ids_of (layout_blocks t.layout)))) here both.0,
      listed_same l l' n ts (absent_rest n t ts absent) same both.1,
    ))
    (number_cases (has_number t.number ts))

-- ---- in another order

module _ (P : Track → Type 0) where
  all_front : (xs ys : List Track) → AllByRecursion P (xs ++ ys) → AllByRecursion P xs
  all_front [] ys h = tt
  all_front (x ∷ xs) ys h = (h.0, all_front xs ys h.1)

  all_back : (xs ys : List Track) → AllByRecursion P (xs ++ ys) → AllByRecursion P ys
  all_back [] ys h = h
  all_back (x ∷ xs) ys h = all_back xs ys h.1

  all_both : (xs ys : List Track) → AllByRecursion P xs → AllByRecursion P ys → AllByRecursion P (xs ++ ys)
  all_both [] ys h k = k
  all_both (x ∷ xs) ys h k = (h.0, all_both xs ys h.1 k)

  pub all_swapped : (xs ys zs : List Track) → AllByRecursion P (xs ++ (ys ++ zs)) → AllByRecursion P (ys ++ (xs ++ zs))
  all_swapped xs ys zs h =
      let rest = all_back xs (ys ++ zs) h in
      all_both ys (xs ++ zs) (all_front ys zs rest) (all_both xs zs (all_front xs (ys ++ zs) h) (all_back ys zs rest))

module _ (l : Listing) where
  listed_agree : (t u : Track) → Agree t u → t.number ≡ u.number → IsListed l u → IsListed l t
  listed_agree t u agree same is = subst (λ (w : ℕ × List ℕ). (l w.0 ≡ None) ⊎ (l w.0 ≡ Some w.1))
      (λ i. (sym same i, ids_of (layout_blocks (sym (agree same) i)))) is

  listed_found : (t : Track) (ts : List Track) → AgreesWith t ts → has_number t.number ts ≡ true → AreListed l ts
      → IsListed l t
  listed_found t [] agree is all = absurd (true_false (sym is))
  listed_found t (u ∷ us) agree is all = ⊎_elim
      (λ same. listed_agree t u agree.0 (sym same) all.0)
      (λ ne. listed_found t us agree.1 (sym (number_other t.number u us ne) ∙ is) all.1)
      (cases_eq u.number t.number)

  pub listed_all : (ts : List Track) → AreNumbered ts → AreListed l (one_each ts) → AreListed l ts
  listed_all [] numbered all = tt
  listed_all (t ∷ ts) numbered all = ⊎_elim
      (λ again.
      let rest = listed_all ts numbered.1 (subst (AreListed l) (one_again t ts again) all) in
      (listed_found t ts numbered.0 again rest, rest))
      (λ first.
      let both = subst (AreListed l) (one_first t ts first) all in
      (both.0, listed_all ts numbered.1 both.1))
      (number_cases (has_number t.number ts))

  pub listed_each : (ts : List Track) → AreListed l ts → AreListed l (one_each ts)
  listed_each [] all = tt
  listed_each (t ∷ ts) all = ⊎_elim
      (λ again. subst (AreListed l) (sym (one_again t ts again)) (listed_each ts all.1))
      (λ first. subst (AreListed l) (sym (one_first t ts first)) (all.0, listed_each ts all.1))
      (number_cases (has_number t.number ts))

  agrees_unlisted : (t : Track) (ts : List Track) → AgreesWith t ts → AgreesWith t (unlisted l ts)
  agrees_unlisted t [] agree = tt
  agrees_unlisted t (u ∷ us) agree = ⊎_elim
      (λ none. subst (AgreesWith t) (sym (unlisted_here l u us none)) (agree.0, agrees_unlisted t us agree.1))
      (λ some. subst (AgreesWith t) (sym (unlisted_not l u us some)) (agrees_unlisted t us agree.1))
      (number_cases (is_none (l u.number)))

  pub numbered_unlisted : (ts : List Track) → AreNumbered ts → AreNumbered (unlisted l ts)
  numbered_unlisted [] numbered = tt
  numbered_unlisted (t ∷ ts) numbered = ⊎_elim
      (λ none. subst AreNumbered (sym (unlisted_here l t ts none))
      (agrees_unlisted t ts numbered.0, numbered_unlisted ts numbered.1))
      (λ some. subst AreNumbered (sym (unlisted_not l t ts some)) (numbered_unlisted ts numbered.1))
      (number_cases (is_none (l t.number)))
