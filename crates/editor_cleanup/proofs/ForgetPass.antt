-- Blocks that nothing names are forgotten, one after another.
use Rattle.editor_cleanup.proofs.Common.{◌≡◌, sym, ap, subst, ℕ, ◌+◌, List, [], ◌∷◌, ◌++◌, length, None, rules, Counts}
use Rattle.editor_cleanup.proofs.Common.{IsFirstFree, SetsCount, Core, Forgets, AreFirst, AreNext}
use Rattle.editor_cleanup.specs.Passes.{ForgetsFirst}
use Rattle.editor_cleanup.proofs.FirstIds.{first_is_next, first_same}
use Rattle.editor_cleanup.proofs.{IdRemovals.forgets_more, FreeIds.next_more}

-- these so far
pub record Forgetting {D : Type 0} (old : Core D) (ids : List ℕ) (end : ℕ) (new : Core D) : Type 0 where
  pub next : AreNext old.counts 0 ids end
  pub forgets : Forgets old.counts new.counts ids
  pub fields : new ≡ record old { counts = new.counts }

module _ {D : Type 0} (old : Core D) where
  pub forgetting_more : (ids : List ℕ) (end id : ℕ) (mid : Core D) (counts : Counts) → Forgetting old ids end mid
      → IsFirstFree mid.counts id → SetsCount mid.counts counts id None
      → Forgetting old (ids ++ id ∷ []) (id + 1) (record mid { counts = counts })
  forgetting_more ids end id mid counts was first set = search (rules, next_more, first_is_next, forgets_more)

  pub forgets_all : (count : ℕ) (ids : List ℕ) (end : ℕ) (new : Core D) → Forgetting old ids end new
      → AreFirst old.counts count ids → ForgetsFirst old count new
  forgets_all count ids end new was first = search rules

-- those whose files were removed
pub forgotten : {D : Type 0} (old mid new : Core D) (ids : List ℕ) (end count : ℕ) → AreNext old.counts 0 ids end
    → length ids ≡ count → mid ≡ record old { store = mid.store; cache = mid.cache } → ForgetsFirst mid count new
    → Forgets old.counts new.counts ids
forgotten {D} old mid new ids end count next len fields forgets =
    let counts : mid.counts ≡ old.counts = ap (λ (z : Core D). z.counts) fields in
    let first = subst (λ (n : ℕ). AreFirst old.counts n forgets.ids) (sym len)
    (subst (λ (k : Counts). AreFirst k count forgets.ids) counts forgets.first) in
    subst (Forgets old.counts new.counts) (first_same old.counts ids forgets.ids end next first)
    (subst (λ (k : Counts). Forgets k new.counts forgets.ids) counts forgets.forgets)
