-- The ids of count 0 that follow one another.
use Rattle.editor_cleanup.proofs.Common.{◌≡◌, ◌≢◌, ◌⊎◌, inl, inr, ⊎_elim, refl, subst, ℕ, ◌+◌, ◌≤◌, ◌<◌, List, [], ◌∷◌}
use Rattle.editor_cleanup.proofs.Common.{◌++◌, length, Some, arith, rules, cases_eq, Contains, Counts, IsNextFree}
use Rattle.editor_cleanup.proofs.Common.{AreNext, NoneFrom}
use Rattle.std.proofs.lemmas.Bool.{cases_lt}
use Rattle.block_ledger.proofs.Listed.{contains_cases, contains_more}

pub is_among : (ids : List ℕ) (x : ℕ) → Contains ids x ⊎ (Contains ids x → ⊥)
is_among [] x = inr (λ has. omega (arith, has.1))
is_among (id ∷ ids) x = by (cases_eq id x) (is_among ids x)
  where
    by : (id ≡ x) ⊎ (id ≢ x) → Contains ids x ⊎ (Contains ids x → ⊥)
        → Contains (id ∷ ids) x ⊎ (Contains (id ∷ ids) x → ⊥)
    by (inl same) rest = inl (0, omega arith, same)
    by (inr other) (inl has) = inl (contains_more id x ids has)
    by (inr other) (inr not) = inr (λ has. ⊎_elim other not (contains_cases id x ids has))

module _ (counts : Counts) where
  -- one more
  pub next_more : (from : ℕ) (ids : List ℕ) (end id : ℕ) → AreNext counts from ids end → IsNextFree counts end id
      → AreNext counts from (ids ++ id ∷ []) (id + 1)
  next_more from [] end id are next = (subst (λ (n : ℕ). IsNextFree counts n id) are next, refl)
  next_more from (x ∷ xs) end id are next = (are.0, next_more (x + 1) xs end id are.1 next)

  -- there are no more than numbers
  pub next_few : (from : ℕ) (ids : List ℕ) (end : ℕ) → AreNext counts from ids end → length ids + from ≤ end
  next_few from [] end are = omega (arith, are)
  next_few from (x ∷ xs) end are = omega (arith, are.0.past, next_few (x + 1) xs end are.1)

  -- those that have the count 0 are below a number
  pub next_most : (most from : ℕ) (ids : List ℕ) (end : ℕ) → ((id : ℕ) → counts id ≡ Some 0 → id < most) → from ≤ most
      → AreNext counts from ids end → end ≤ most
  next_most most from [] end below le are = omega (arith, are, le)
  next_most most from (x ∷ xs) end below le are =
      next_most most (x + 1) xs end below (omega (arith, below x are.0.free)) are.1

  pub next_free : (from : ℕ) (ids : List ℕ) (end : ℕ) → AreNext counts from ids end → (x : ℕ) → Contains ids x
      → counts x ≡ Some 0
  next_free from [] end are x has = absurd (omega (arith, has.1))
  next_free from (id ∷ ids) end are x has = ⊎_elim
      (λ same. subst (λ (n : ℕ). counts n ≡ Some 0) same are.0.free)
      (λ more. next_free (id + 1) ids end are.1 x more)
      (contains_cases id x ids has)

  pub next_below : (from : ℕ) (ids : List ℕ) (end : ℕ) → AreNext counts from ids end → (x : ℕ) → Contains ids x → x < end
  next_below from [] end are x has = absurd (omega (arith, has.1))
  next_below from (id ∷ ids) end are x has = ⊎_elim
      (λ same. omega (arith, same, next_few (id + 1) ids end are.1))
      (λ more. next_below (id + 1) ids end are.1 x more)
      (contains_cases id x ids has)

  -- all of them up to the end
  pub next_listed : (from : ℕ) (ids : List ℕ) (end : ℕ) → AreNext counts from ids end → (x : ℕ) → from ≤ x → x < end
      → counts x ≡ Some 0 → Contains ids x
  next_listed from [] end are x le lt free = absurd (omega (arith, are, le, lt))
  next_listed from (id ∷ ids) end are x le lt free = ⊎_elim
      (λ same. (0, omega arith, same))
      (λ ne. contains_more id x ids
      (next_listed (id + 1) ids end are.1 x (omega (arith, are.0.least x le free, ne)) lt free))
      (cases_eq id x)

  pub next_past : (ids : List ℕ) (end : ℕ) → AreNext counts 0 ids end → (x : ℕ) → counts x ≡ Some 0
      → (Contains ids x → ⊥) → end ≤ x
  next_past ids end are x free not = search (rules, cases_lt, next_listed)

  -- as many of them are the same, and so are fewer where no more are left
  pub next_same : (from : ℕ) (xs ys : List ℕ) (x_end y_end : ℕ) → AreNext counts from xs x_end
      → AreNext counts from ys y_end → length ys ≤ length xs
      → (length ys ≡ length xs) ⊎ NoneFrom counts y_end → ys ≡ xs
  next_same from [] [] x_end y_end one two few all = refl
  next_same from [] (y ∷ ys) x_end y_end one two few all = absurd (omega (arith, few))
  next_same from (x ∷ xs) [] x_end y_end one two few all = search rules
  next_same from (x ∷ xs) (y ∷ ys) x_end y_end one two few all =
      let same : y ≡ x =
      omega (arith, one.0.least y two.0.past two.0.free, two.0.least x one.0.past one.0.free) in
      let rest = next_same (x + 1) xs ys x_end y_end one.1
      (subst (λ (n : ℕ). AreNext counts (n + 1) ys y_end) same two.1) (omega (arith, few))
      (⊎_elim (λ as_many. inl (omega (arith, as_many))) inr all) in
      λ i. same i ∷ rest i
