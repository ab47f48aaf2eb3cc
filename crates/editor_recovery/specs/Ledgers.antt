-- The files that a ledger counts.
use Rattle.std.specs.Prelude.{◌≡◌, ◌≤◌, ◌⊎◌, ℕ, Some, None, IsSome, List, Contains}
use Rattle.disk_model.specs.Disk.{Files}
use Rattle.block_ledger.specs.Counts.{Counts}

-- each of these files but files 0 and 1 has the count 0, and nothing else has one
pub record AreNoted (files : List ℕ) (counts : Counts) : Type 0 where
  pub there : (id : ℕ) → Contains files id → 2 ≤ id → counts id ≡ Some 0
  pub only : (id : ℕ) → (counts id ≡ None) ⊎ ((counts id ≡ Some 0) × (2 ≤ id) × Contains files id)

-- each of these files but files 0 and 1 has a count, and nothing else has one
pub record AreCounted (files : List ℕ) (counts : Counts) : Type 0 where
  pub there : (id : ℕ) → Contains files id → 2 ≤ id → IsSome (counts id)
  pub only : (id : ℕ) → IsSome (counts id) → (2 ≤ id) × Contains files id

-- The ledger of a disk: each file but those of a journal has a count, 0 where no block names it, and nothing else has
-- one.
pub record IsLedgerOf (files : Files) (counts : Counts) : Type 0 where
  pub there : (id : ℕ) → IsSome (files id) → 2 ≤ id → IsSome (counts id)
  pub only : (id : ℕ) → IsSome (counts id) → IsSome (files id) × (2 ≤ id)
