-- What a ledger says: a count for each id that it has.
use Rattle.std.specs.Prelude.{◌≡◌, ◌≢◌, ◌↔◌, ℕ, zero, suc, ◌+◌, ◌-◌, ◌^◌, ◌<◌, ◌≤◌, ◌==◌, min, Option, Some, None}
use Rattle.std.specs.Prelude.{IsSome, List, [], ◌∷◌, Contains, if◌then◌else◌}
use Rattle.std.specs.List.Sorted.{IsStrictlyIncreasing}

-- the count of each id, none where the ledger does not have it
abbrev pub Counts : Type 0
Counts = ℕ → Option ℕ

-- a count after one occurrence more; it stands still at the greatest u128
abbrev pub one_more : Option ℕ → ℕ
one_more None = 1
one_more (Some n) = min (n + 1) (2 ^ 128 - 1)

-- and after one less
abbrev pub one_less : Option ℕ → ℕ
one_less None = 0
one_less (Some n) = n - 1

-- the id has an occurrence
abbrev pub IsNamed : Option ℕ → Type 0
IsNamed None = ⊥
IsNamed (Some n) = 0 < n

-- new has this count at the id, and at every other id what old has
pub record SetsCount (old new : Counts) (id : ℕ) (count : Option ℕ) : Type 0 where
  pub here : new id ≡ count
  pub others : (other : ℕ) → other ≢ id → new other ≡ old other

-- the least id of count 0
pub record IsFirstFree (counts : Counts) (id : ℕ) : Type 0 where
  pub free : counts id ≡ Some 0
  pub least : (other : ℕ) → counts other ≡ Some 0 → id ≤ other

-- the least id of count 0 from one on
pub record IsNextFree (counts : Counts) (from id : ℕ) : Type 0 where
  pub free : counts id ≡ Some 0
  pub past : from ≤ id
  pub least : (other : ℕ) → from ≤ other → counts other ≡ Some 0 → id ≤ other

-- an id, where its count is 0
abbrev pub free_id : ℕ → Option ℕ → Option ℕ
free_id id None = None
free_id id (Some zero) = Some id
free_id id (Some (suc n)) = None

-- how many occurrences are counted of an id, none of one that the ledger does not have
abbrev pub occurrences : Option ℕ → ℕ
occurrences None = 0
occurrences (Some n) = n

-- how often an id comes in a list
abbrev pub times : ℕ → List ℕ → ℕ
times id [] = 0
times id (x ∷ xs) = (if x == id then 1 else 0) + times id xs

-- each id is counted as often as it comes in a list
abbrev pub IsFreshCount : List ℕ → Counts → Type 0
IsFreshCount ids counts = (id : ℕ) → occurrences (counts id) ≡ times id ids

-- the ids that are such, each once and rising
pub record AreAll (P : ℕ → Type 0) (ids : List ℕ) : Type 0 where
  pub rising : IsStrictlyIncreasing ids
  pub each : (id : ℕ) → Contains ids id ↔ P id

-- the ids that occur
abbrev pub AreNamed : Counts → List ℕ → Type 0
AreNamed counts = AreAll (λ id. IsNamed (counts id))

-- the ids that the ledger has, those of count 0 among them
abbrev pub AreThere : Counts → List ℕ → Type 0
AreThere counts = AreAll (λ id. IsSome (counts id))
