-- Ids that went, one after another.
use Rattle.editor_cleanup.proofs.Common.{◌≡◌, ◌≢◌, ◌⊎◌, inl, inr, ⊎_elim, refl, sym, ap, ◌∙◌, subst, ℕ, zero, suc, ◌+◌}
use Rattle.editor_cleanup.proofs.Common.{◌<◌, List, [], ◌∷◌, ◌++◌, length, length-append, Option, Some, None, arith}
use Rattle.editor_cleanup.proofs.Common.{rules, cases_eq, Contains, slice_index, Files, RemoveStep, Counts, SetsCount}
use Rattle.editor_cleanup.proofs.Common.{IsFirstFree, AreGone, Forgets, Removes, RemovesPart}
use Rattle.std.proofs.lemmas.List.{get_or_append_left, get_or-append-add, get_or_default}
use Rattle.std.proofs.lemmas.List.Elements.{Contains-append_left, Contains-append_right, Contains-append_cases}
use Rattle.std.specs.{List.Sorted.IsStrictlyIncreasing}

none_in : {X : Type 0} (x : X) → Contains [] x → ⊥
none_in x h = omega (arith, h.1)

one_is : (id x : ℕ) → Contains (id ∷ []) x → id ≡ x
one_is id x (zero, lt, e) = e
one_is id x (suc k, lt, e) = absurd (omega (arith, lt))

here : (ids : List ℕ) (id : ℕ) → Contains (ids ++ id ∷ []) id
here ids id = Contains-append_right ids (id ∷ []) id (0, omega arith, refl)

earlier : (ids : List ℕ) (id x : ℕ) → Contains ids x → Contains (ids ++ id ∷ []) x
earlier ids id x = Contains-append_left ids (id ∷ []) x

-- one of them or the last
pub either : (ids : List ℕ) (id x : ℕ) → Contains (ids ++ id ∷ []) x → Contains ids x ⊎ (id ≡ x)
either ids id x h = ⊎_elim inl (λ one. inr (one_is id x one)) (Contains-append_cases ids (id ∷ []) x h)

pub long : (ids : List ℕ) (id : ℕ) → length (ids ++ id ∷ []) ≡ length ids + 1
long ids id = length-append ids (id ∷ [])

-- a list rises on, past all of it
rises : (ids : List ℕ) (id : ℕ) → IsStrictlyIncreasing ids → ((x : ℕ) → Contains ids x → x < id)
    → IsStrictlyIncreasing (ids ++ id ∷ [])
rises ids id up below = λ k lt. go k lt (cases_eq (k + 1) (length ids))
  where
    at : (k : ℕ) → k < length ids → slice_index (ids ++ id ∷ []) k ≡ slice_index ids k
    at k lt = get_or_append_left ids (id ∷ []) 0 k lt

    last : (k : ℕ) → k ≡ length ids → slice_index (ids ++ id ∷ []) k ≡ id
    last k e = ap (λ (n : ℕ). slice_index (ids ++ id ∷ []) n) (e ∙ omega arith) ∙ get_or-append-add ids (id ∷ []) 0 0

    go : (k : ℕ) → k + 1 < length (ids ++ id ∷ []) → (k + 1 ≡ length ids) ⊎ (k + 1 ≢ length ids)
        → slice_index (ids ++ id ∷ []) k < slice_index (ids ++ id ∷ []) (k + 1)
    go k lt (inl e) =
        let less = below (slice_index ids k) (
          k,
          omega (arith, e),
          get_or_default ids k (slice_index ids k) 0 (omega (arith, e)),
        ) in
        omega (arith, at k (omega (arith, e)), last (k + 1) e, less)
    go k lt (inr ne) =
        let n = long ids id in
        omega (
          arith,
          at k (omega (arith, lt, n, ne)),
          at (k + 1) (omega (arith, lt, n, ne)),
          up k (omega (arith, lt, n, ne)),
        )

pub forgets_none : (old : Counts) → Forgets old old []
forgets_none old = search (rules, none_in)

pub forgets_more : (old mid new : Counts) (ids : List ℕ) (id : ℕ) → Forgets old mid ids → IsFirstFree mid id
    → SetsCount mid new id None → Forgets old new (ids ++ id ∷ [])
forgets_more old mid new ids id was first set = record {
  rising = rises ids id was.rising (λ x h. was.least x id h first.free);
  free = λ x h. ⊎_elim (was.free x) (λ e. old_free x e) (either ids id x h);
  gone = λ x h. ⊎_elim (λ one. gone_still x one) (λ e. subst (λ (n : ℕ). new n ≡ None) e set.here) (either ids id x h);
  least = λ x other h free. least x other free (either ids id x h);
  others = λ x not. set.others x (λ e. not (subst (Contains (ids ++ id ∷ [])) (sym e) (here ids id)))
      ∙ was.others x (λ h. not (earlier ids id x h));
}
  where
    some-none : (n : ℕ) (o : Option ℕ) → o ≡ Some n → o ≡ None → ⊥
    some-none n None e f = absurd (cc e)
    some-none n (Some m) e f = absurd (cc f)

    apart : (x : ℕ) → Contains ids x → x ≢ id
    apart x h e = some-none 0 (mid id) first.free (subst (λ (n : ℕ). mid n ≡ None) e (was.gone x h))

    gone_still : (x : ℕ) → Contains ids x → new x ≡ None
    gone_still x h = set.others x (apart x h) ∙ was.gone x h

    old_free : (x : ℕ) → id ≡ x → old x ≡ Some 0
    old_free x e = sym (was.others x (λ h. apart x h (sym e))) ∙ subst (λ (n : ℕ). mid n ≡ Some 0) e first.free

    mid_free : (other : ℕ) → new other ≡ Some 0 → (other ≢ id) × (mid other ≡ Some 0)
    mid_free other free =
        let ne : other ≢ id = λ e. some-none 0 (new id) (subst (λ (n : ℕ). new n ≡ Some 0) e free) set.here in
        (ne, sym (set.others other ne) ∙ free)

    least : (x other : ℕ) → new other ≡ Some 0 → Contains ids x ⊎ (id ≡ x) → x < other
    least x other free (inl h) = was.least x other h (mid_free other free).1
    least x other free (inr e) =
        let m = mid_free other free in
        omega (arith, e, m.0, first.least other m.1)

pub removes_none : (files : Files) → Removes files files []
removes_none files = record { gone = λ id h. absurd (none_in id h); others = λ id not. refl }

pub gone_same : {A : Type 0} (a b : Option A) → a ≡ None → (b ≡ a) ⊎ (b ≡ None) → b ≡ None
gone_same a b none (inl same) = same ∙ none
gone_same a b none (inr gone) = gone

gone_more : (mid new : Files) (ids : List ℕ) (id : ℕ) → AreGone ids mid → RemoveStep id mid new → new id ≡ None
    → AreGone (ids ++ id ∷ []) new
gone_more mid new ids id was step gone x h =
    ⊎_elim (λ one. still (cases_eq x id) one) (λ e. subst (λ (n : ℕ). new n ≡ None) e gone) (either ids id x h)
  where
    still : (x ≡ id) ⊎ (x ≢ id) → Contains ids x → new x ≡ None
    still (inl e) one = subst (λ (n : ℕ). new n ≡ None) (sym e) gone
    still (inr ne) one = step.others x ne ∙ was x one

pub removes_more : (old mid new : Files) (ids : List ℕ) (id : ℕ) → Removes old mid ids → RemoveStep id mid new
    → new id ≡ None → Removes old new (ids ++ id ∷ [])
removes_more old mid new ids id was step gone = record {
  gone = gone_more mid new ids id was.gone step gone;
  others = λ x not. step.others x (λ e. not (subst (Contains (ids ++ id ∷ [])) (sym e) (here ids id)))
      ∙ was.others x (λ h. not (earlier ids id x h));
}

pub part_none : (counts : Counts) (files : Files) → RemovesPart counts files files []
part_none counts files = record { gone = λ id h. absurd (none_in id h); others = λ id not. inl refl }
