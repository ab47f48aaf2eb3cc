-- The first ids of count 0, before and after they were taken out of the counts.
use Rattle.editor_cleanup.proofs.Common.{◌≡◌, inr, sym, ◌∙◌, ℕ, ◌≤◌, List, length, Option, Some, None, arith, rules}
use Rattle.editor_cleanup.proofs.Common.{Contains, Counts, IsFirstFree, IsNextFree, AreFirst, AreNext, NoneFrom}
use Rattle.editor_cleanup.proofs.Common.{Forgets}
use Rattle.editor_cleanup.proofs.FreeIds.{next_below, next_past, next_same}

none_some : (o : Option ℕ) → o ≡ None → o ≡ Some 0 → ⊥
none_some None none some = absurd (cc some)
none_some (Some n) none some = absurd (cc none)

-- or no more are left
pub first_none : (counts : Counts) (most : ℕ) (ids : List ℕ) (end : ℕ) → AreNext counts 0 ids end → length ids ≤ most
    → NoneFrom counts end → AreFirst counts most ids
first_none counts most ids end next few none = record { end = end; next = next; few = few; all = inr none }

-- the first of them, as many as some
pub first_same : (counts : Counts) (ids first : List ℕ) (end : ℕ) → AreNext counts 0 ids end
    → AreFirst counts (length ids) first → first ≡ ids
first_same counts ids first end next are = next_same counts 0 ids first end are.end next are.next are.few are.all

-- ---- taken out

module _ (old new : Counts) (ids : List ℕ) (end : ℕ) (next : AreNext old 0 ids end) (gone : Forgets old new ids) where
  -- which is not taken out has the count that it had
  left_free : (id : ℕ) → new id ≡ Some 0 → (old id ≡ Some 0) × (end ≤ id)
  left_free id free =
      let not : Contains ids id → ⊥ = λ has. none_some (new id) (gone.gone id has) free in
      let was : old id ≡ Some 0 = sym (gone.others id not) ∙ free in
      (was, next_past old ids end next id was not)

  not_yet : (id : ℕ) → end ≤ id → Contains ids id → ⊥
  not_yet id past has = omega (arith, past, next_below old 0 ids end next id has)

  still_free : (id : ℕ) → end ≤ id → old id ≡ Some 0 → new id ≡ Some 0
  still_free id past free = gone.others id (not_yet id past) ∙ free

  -- what is first then came next
  pub first_is_next : (id : ℕ) → IsFirstFree new id → IsNextFree old end id
  first_is_next id first = search (rules, left_free, still_free)

  pub next_is_first : (id : ℕ) → IsNextFree old end id → IsFirstFree new id
  next_is_first id is = search (rules, still_free, left_free)

  pub none_left : NoneFrom old end → (id : ℕ) → new id ≡ Some 0 → ⊥
  none_left none id free = let was = left_free id free in none id was.1 was.0

  pub none_from : ((id : ℕ) → new id ≡ Some 0 → ⊥) → NoneFrom old end
  none_from none id past free = none id (still_free id past free)
