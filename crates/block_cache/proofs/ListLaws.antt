-- Pages as the lists of their items.
use Rattle.block_cache.proofs.Common.{◌≡◌, sym, ap, ◌∙◌, subst, List, [], ◌∷◌, Contains, ◌⊎◌, inl, inr, ⊎_elim, ℕ, ℤ}
use Rattle.block_cache.proofs.Common.{length, ◌≤◌, ◌≢◌, Contains-head, Contains-tail, Contains-cons, Contains-nil}
use Rattle.block_cache.proofs.Common.{PageKey, HasKey, SameEntries, IsPage, Entries, lists_of, Summary}
use Rattle.std.specs.{Prelude.◌↔◌, Global.Vec}
use Rattle.block_cache.specs.{Entries.IsWithout, Caches.ArePages}
use Rattle.block_cache.proofs.KeyLaws.{has_key, key_has}

module _ {V : Type 0} where
  same_keys : (es new : List (PageKey × V)) → SameEntries es new → (k : PageKey) → HasKey new k → HasKey es k
  same_keys es new same k has = let on = key_has new k has in has_key es (k, on.0) ((same (k, on.0)).0 on.1)

  same_keys_back : (es new : List (PageKey × V)) → SameEntries es new → (k : PageKey) → HasKey es k → HasKey new k
  same_keys_back es new same k has = let on = key_has es k has in has_key new (k, on.0) ((same (k, on.0)).1 on.1)

  pub keys_same : (es new : List (PageKey × V)) → SameEntries es new → (k : PageKey) → HasKey new k ↔ HasKey es k
  keys_same es new same k = (same_keys es new same k, same_keys_back es new same k)

  pub keys_without : (id : ℕ) (es new : List (PageKey × V)) → IsWithout id es new
      → (k : PageKey) → HasKey new k ↔ (HasKey es k × (k.id ≢ id))
  keys_without id es new without k = (
    λ has. let on = key_has new k has in let was = (without (k, on.0)).0 on.1 in (has_key es (k, on.0) was.0, was.1),
    λ was. let on = key_has es k was.0 in has_key new (k, on.0) ((without (k, on.0)).1 (on.1, was.1)),
  )

module _ {T : Type 0} where
  pub lists_has : (es : List (PageKey × Vec T)) (e : PageKey × Vec T) → Contains es e
      → Contains (lists_of es) (e.0, e.1.items)
  lists_has [] e has = absurd (Contains-nil e has)
  lists_has (f ∷ es) e has = ⊎_elim
      (λ (same : f ≡ e). subst (λ (x : PageKey × Vec T). Contains (lists_of (f ∷ es)) (x.0, x.1.items)) same
      (Contains-head (f.0, f.1.items) (lists_of es)))
      (λ (d : Contains es e). Contains-tail (f.0, f.1.items) (lists_of es) (e.0, e.1.items) (lists_has es e d))
      (Contains-cons f es e has)

  pub lists_from : (es : List (PageKey × Vec T)) (e : PageKey × List T) → Contains (lists_of es) e
      → (v : Vec T) × Contains es (e.0, v) × (v.items ≡ e.1)
  lists_from [] e has = absurd (Contains-nil e has)
  lists_from (f ∷ es) e has = ⊎_elim
      (λ (same : (f.0, f.1.items) ≡ e). (
        f.1,
        subst (λ (x : PageKey × List T). Contains (f ∷ es) (x.0, f.1)) same (Contains-head f es),
        ap (λ (x : PageKey × List T). x.1) same,
      ))
      (λ (d : Contains (lists_of es) e). let on = lists_from es e d in
      (on.0, Contains-tail f es (e.0, on.0) on.1, on.2))
      (Contains-cons (f.0, f.1.items) (lists_of es) e has)

  pub lists_keys : (es : List (PageKey × Vec T)) (k : PageKey) → HasKey (lists_of es) k → HasKey es k
  lists_keys es k has = let on = key_has (lists_of es) k has in let from = lists_from es (k, on.0) on.1 in
      has_key es (k, from.0) from.1

  same_there : (es new : List (PageKey × Vec T)) → SameEntries es new → (e : PageKey × List T)
      → Contains (lists_of new) e → Contains (lists_of es) e
  same_there es new same e has = let from = lists_from new e has in
      subst (λ (xs : List T). Contains (lists_of es) (e.0, xs)) from.2
      (lists_has es (e.0, from.0) ((same (e.0, from.0)).0 from.1))

  same_here : (es new : List (PageKey × Vec T)) → SameEntries es new → (e : PageKey × List T)
      → Contains (lists_of es) e → Contains (lists_of new) e
  same_here es new same e has = let from = lists_from es e has in
      subst (λ (xs : List T). Contains (lists_of new) (e.0, xs)) from.2
      (lists_has new (e.0, from.0) ((same (e.0, from.0)).1 from.1))

  pub lists_same : (es new : List (PageKey × Vec T)) → SameEntries es new → SameEntries (lists_of es) (lists_of new)
  lists_same es new same e = (same_there es new same e, same_here es new same e)

  pub lists_kept : (es new : List (PageKey × Vec T)) (k : PageKey) (xs : List T)
      → ((e : PageKey × Vec T) → Contains new e → Contains es e ⊎ ((e.0 ≡ k) × (e.1.items ≡ xs)))
      → (e : PageKey × List T) → Contains (lists_of new) e → Contains (lists_of es) e ⊎ ((e.0 ≡ k) × (e.1 ≡ xs))
  lists_kept es new k xs kept e has = let from = lists_from new e has in ⊎_elim
      (λ old. inl (subst (λ (ys : List T). Contains (lists_of es) (e.0, ys)) from.2 (lists_has es (e.0, from.0) old)))
      (λ put. inr (put.0, sym from.2 ∙ put.1))
      (kept (e.0, from.0) from.1)

  pub lists_without : (id : ℕ) (es new : List (PageKey × Vec T)) → IsWithout id es new
      → IsWithout id (lists_of es) (lists_of new)
  lists_without id es new without e = (
    λ has. let from = lists_from new e has in let was = (without (e.0, from.0)).0 from.1 in
        (subst (λ (ys : List T). Contains (lists_of es) (e.0, ys)) from.2 (lists_has es (e.0, from.0) was.0), was.1),
    λ was. let from = lists_from es e was.0 in
        subst (λ (ys : List T). Contains (lists_of new) (e.0, ys)) from.2
        (lists_has new (e.0, from.0) ((without (e.0, from.0)).1 (from.1, was.1))),
  )

-- what is left of a cache's pages are pages
pub pages_left : (c new : Entries) → ArePages c → new.pages ≡ c.pages
    → ((e : PageKey × List ℤ) → Contains new.samples e → Contains c.samples e ⊎ IsPage e.0 (length e.1))
    → ((e : PageKey × List Summary) → Contains new.frames e → Contains c.frames e ⊎ IsPage e.0 (length e.1))
    → ArePages new
pages_left c new are pages samples frames = record {
  least = subst (λ (n : ℕ). 1 ≤ n) (sym pages) are.least;
  most = subst (λ (n : ℕ). n ≤ 1024) (sym pages) are.most;
  samples = λ e has. ⊎_elim (are.samples e) (λ page. page) (samples e has);
  frames = λ e has. ⊎_elim (are.frames e) (λ page. page) (frames e has);
}
