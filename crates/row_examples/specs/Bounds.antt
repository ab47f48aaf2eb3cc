-- Counts that are not great.
use Rattle.std.specs.Prelude.{ℕ, ◌≤◌, IsSome, List}
use Rattle.std.specs.List.{AllByRecursion}
use Rattle.block_ledger.specs.Counts.{Counts, occurrences}

-- no count is above this number
abbrev pub AreAtMost : ℕ → Counts → Type 0
AreAtMost most cs = (id : ℕ) → occurrences (cs id) ≤ most

-- each of these ids is there
abbrev pub AreAllThere : Counts → List ℕ → Type 0
AreAllThere cs = AllByRecursion (λ (id : ℕ). IsSome (cs id))
