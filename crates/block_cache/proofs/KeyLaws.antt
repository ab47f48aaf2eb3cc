-- Keys are compared by all of their fields.
use Rattle.block_cache.proofs.Common.{◌≡◌, Bool, true, false, refl, arith, sym, List, [], ◌∷◌, Contains, length, ◌<◌}
use Rattle.block_cache.proofs.Common.{◌⊎◌, inl, inr, subst, ap, ◌∙◌, ◌++◌, ⊎_elim, Option, ◌≢◌, Result, Ok, Err}
use Rattle.block_cache.proofs.Common.{Contains-head, Contains-tail, Contains-cons, Contains-nil, HasKey, SameEntries}
use Rattle.block_cache.proofs.Common.{PageKey}
use Rattle.std.proofs.Common.{rules, append-nil, Some, None}
use Rattle.std.specs.Prelude.{is_some, OnOk, OnErr}
use Rattle.std.specs.{Map.lookup, Map.lookup_entry, Map.remove_entry, Map.keys_of, Option.option_map_or}
use Rattle.lru.specs.LruCache.{LruCache, demoted, promoted, put_entries}
use Rattle.lru.proofs.Splits.{Contains-middle, Contains-with}
use Rattle.lru.proofs.CallerLemmas.{Contains-demoted, Contains-lookup, Contains-promoted, Contains-put_entries}
use Rattle.block_cache.specs.{contracts.keys.PageKeyPartialEq.TheImpl.eq-value}

abbrev pub same_key : PageKey → PageKey → Bool
same_key = eq-value.it

pub same_key_is : (a b : PageKey) → same_key a b ≡ true → a ≡ b
same_key_is a b e = search rules

pub same_key_refl : (a : PageKey) → same_key a a ≡ true
same_key_refl a = search rules

module _ {V : Type 0} where
  -- what a look-up finds is there under the key
  pub found_there : (k : PageKey) (es : List (PageKey × V)) (v : V) → lookup (same_key k) es ≡ Some v
      → Contains es (k, v)
  found_there k es v e =
      let found = Contains-lookup (same_key k) es v e in
      subst (λ (j : PageKey). Contains es (j, v)) (sym (same_key_is k found.0 found.2)) found.1

  pub missed_there : (k : PageKey) (es : List (PageKey × V)) → lookup (same_key k) es ≡ None → HasKey es k → ⊥
  missed_there k [] e has = Contains-nil k has
  missed_there k (f ∷ es) e has = (elim (same_key k f.0) as (λ y. same_key k f.0 ≡ y → ⊥) [
    | true ↦ λ t. let clash = rw t at e in cc
    | false ↦ λ t. ⊎_elim
        (λ (same : f.0 ≡ k). let same_true : same_key k f.0 ≡ true = subst (λ j. same_key k j ≡ true) (sym same)
        (same_key_refl k) in cc)
        (λ (d : HasKey es k). missed_there k es (rw t at e) d)
        (Contains-cons f.0 (keys_of es) k has)
  ]) refl

  first_or_rest : (k : PageKey) (es : List (PageKey × V)) (f e : PageKey × V) → lookup_entry (same_key k) es ≡ Some f
      → Contains es e → (f ≡ e) ⊎ Contains (remove_entry (same_key k) es) e
  first_or_rest k [] f e found has = absurd (Contains-nil e has)
  first_or_rest k (g ∷ es) f e found has = (elim (same_key k g.0) as (λ y. same_key k g.0 ≡ y → (f ≡ e)
      ⊎ Contains (remove_entry (same_key k) (g ∷ es)) e) [
        | true ↦ λ t. let is = rw t at found in ⊎_elim
            (λ (same : g ≡ e). inl cc)
            (λ (d : Contains es e). inr (rw t d))
            (Contains-cons g es e has)
        | false ↦ λ t. let is = rw t at found in ⊎_elim
            (λ (same : g ≡ e). inr (rw t (subst (Contains (g ∷ remove_entry (same_key k) es)) same (Contains-head g
            (remove_entry (same_key k) es)))))
            (λ (d : Contains es e). ⊎_elim (λ (same : f ≡ e). inl same) (λ (r : Contains (remove_entry (same_key k) es)
            e). inr (rw t (Contains-tail g (remove_entry (same_key k) es) e r)))
            (first_or_rest k es f e is d))
            (Contains-cons g es e has)
      ]) refl

  still_there : (k : PageKey) (es : List (PageKey × V)) (o : Option (PageKey × V)) → lookup_entry (same_key k) es ≡ o
      → (e : PageKey × V) → Contains es e
      → Contains (option_map_or (λ f. f ∷ remove_entry (same_key k) es) o es) e
  still_there k es None found e has = has
  still_there k es (Some f) found e has = ⊎_elim
      (λ (same : f ≡ e). subst (Contains (f ∷ remove_entry (same_key k) es)) same (Contains-head f (remove_entry
      (same_key k) es)))
      (λ (r : Contains (remove_entry (same_key k) es) e). Contains-tail f (remove_entry (same_key k) es) e r)
      (first_or_rest k es f e found has)

  -- a page that is used is moved to the front, and none goes
  pub promoted_same : (k : PageKey) (es new : List (PageKey × V)) → new ≡ promoted (same_key k) es → SameEntries es new
  promoted_same k es new e x = (
    λ has. Contains-promoted (same_key k) es x (subst (λ l. Contains l x) e has),
    λ has. subst (λ l. Contains l x) (sym e) (still_there k es (lookup_entry (same_key k) es) refl x has),
  )

  still_last : (k : PageKey) (es : List (PageKey × V)) (o : Option (PageKey × V)) → lookup_entry (same_key k) es ≡ o
      → (e : PageKey × V) → Contains es e
      → Contains (option_map_or (λ f. remove_entry (same_key k) es ++ f ∷ []) o es) e
  still_last k es None found e has = has
  still_last k es (Some f) found e has = ⊎_elim
      (λ (same : f ≡ e). subst (Contains (remove_entry (same_key k) es ++ f ∷ [])) same
      (Contains-middle (remove_entry (same_key k) es) f []))
      (λ (r : Contains (remove_entry (same_key k) es) e). Contains-with (remove_entry (same_key k) es) f [] e
      (subst (λ l. Contains l e) (sym (append-nil (remove_entry (same_key k) es))) r))
      (first_or_rest k es f e found has)

  -- a page that is moved to the end stays, and none comes
  pub demoted_same : (k : PageKey) (es new : List (PageKey × V)) → new ≡ demoted (same_key k) es → SameEntries es new
  demoted_same k es new e x = (
    λ has. Contains-demoted (same_key k) es x (subst (λ l. Contains l x) e has),
    λ has. subst (λ l. Contains l x) (sym e) (still_last k es (lookup_entry (same_key k) es) refl x has),
  )

  -- a page that is put is that one
  pub put_is : (c : LruCache PageKey V) (k : PageKey) (v : V) (e : PageKey × V)
      → Contains (put_entries same_key c k v) e
      → Contains c.entries e ⊎ ((e.0 ≡ k) × (e.1 ≡ v))
  put_is c k v e has = ⊎_elim (λ old. inl old)
      (λ put. inr (⊎_elim (λ same. same) (λ was. sym (same_key_is k e.0 was.2)) put.1, put.0))
      (Contains-put_entries same_key c k v e has)

  -- without a key
  pub others_stay : (k : PageKey) (es : List (PageKey × V)) (e : PageKey × V) → Contains es e → e.0.id ≢ k.id
      → Contains (remove_entry (same_key k) es) e
  others_stay k [] e has other = has
  others_stay k (f ∷ es) e has other = (elim (same_key k f.0) as (λ y. same_key k f.0 ≡ y
      → Contains (remove_entry (same_key k) (f ∷ es)) e) [
        | true ↦ λ t. ⊎_elim
            (λ (same : f ≡ e). absurd (other (ap (λ (x : PageKey × V). x.0.id) (sym same)
            ∙ ap (λ (j : PageKey). j.id) (sym (same_key_is k f.0 t)))))
            (λ (d : Contains es e). rw t d)
            (Contains-cons f es e has)
        | false ↦ λ t. ⊎_elim
            (λ (same : f ≡ e). rw t (subst (Contains (f ∷ remove_entry (same_key k) es)) same (Contains-head f
            (remove_entry (same_key k) es))))
            (λ (d : Contains es e). rw t (Contains-tail f (remove_entry (same_key k) es) e (others_stay k es e d other)))
            (Contains-cons f es e has)
      ]) refl

  pub one_fewer : (k : PageKey) (es : List (PageKey × V)) → HasKey es k
      → length (remove_entry (same_key k) es) < length es
  one_fewer k [] has = absurd (Contains-nil k has)
  one_fewer k (f ∷ es) has = (elim (same_key k f.0) as (λ y. same_key k f.0 ≡ y
      → length (remove_entry (same_key k) (f ∷ es)) < length (f ∷ es)) [
        | true ↦ λ t. rw t (omega arith)
        | false ↦ λ t. ⊎_elim
            (λ (same : f.0 ≡ k). let same_true : same_key k f.0 ≡ true = subst (λ j. same_key k j ≡ true) (sym same)
            (same_key_refl k) in cc)
            (λ (d : HasKey es k). let on = one_fewer k es d in rw t (omega arith))
            (Contains-cons f.0 (keys_of es) k has)
      ]) refl

  -- an entry has its key
  pub has_key : (es : List (PageKey × V)) (e : PageKey × V) → Contains es e → HasKey es e.0
  has_key [] e has = absurd (Contains-nil e has)
  has_key (f ∷ es) e has = ⊎_elim
      (λ (same : f ≡ e). subst (λ (x : PageKey × V). Contains (keys_of (f ∷ es)) x.0) same (Contains-head f.0 (keys_of
      es)))
      (λ (d : Contains es e). Contains-tail f.0 (keys_of es) e.0 (has_key es e d))
      (Contains-cons f es e has)

  -- and a key its entry
  pub key_has : (es : List (PageKey × V)) (k : PageKey) → HasKey es k → (v : V) × Contains es (k, v)
  key_has [] k has = absurd (Contains-nil k has)
  key_has (f ∷ es) k has = ⊎_elim
      (λ (same : f.0 ≡ k). (f.1, subst (λ (j : PageKey). Contains (f ∷ es) (j, f.1)) same (Contains-head f es)))
      (λ (d : HasKey es k). let on = key_has es k d in (on.0, Contains-tail f es (k, on.0) on.1))
      (Contains-cons f.0 (keys_of es) k has)

  -- a look-up that finds has the key
  pub found_key : (k : PageKey) (es : List (PageKey × V)) → is_some (lookup (same_key k) es) ≡ true → HasKey es k
  found_key k es e = (elim (lookup (same_key k) es) as (λ o. lookup (same_key k) es ≡ o → is_some o ≡ true
      → HasKey es k) [
        | None ↦ λ _ no. absurd cc
        | Some v ↦ λ found _. has_key es (k, v) (found_there k es v found)
      ]) refl e

  -- what is put, or nothing
  pub put_or_same : {R E : Type 0} (c new : LruCache PageKey V) (k : PageKey) (v : V) (r : Result R E)
      → OnOk r (new ≡ record { entries = put_entries same_key c k v; cap = c.cap }) → OnErr r (new ≡ c)
      → (e : PageKey × V) → Contains new.entries e → Contains c.entries e ⊎ ((e.0 ≡ k) × (e.1 ≡ v))
  put_or_same c new k v (Ok r) put same e has = put_is c k v e (subst (λ (m : LruCache PageKey V). Contains m.entries
      e) put has)
  put_or_same c new k v (Err r) put same e has = inl (subst (λ (m : LruCache PageKey V). Contains m.entries e) same has)
