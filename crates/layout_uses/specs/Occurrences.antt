-- Counts of occurrences, as blocks come and go.
use Rattle.std.specs.Prelude.{◌≡◌, ◌↔◌, ◌⊎◌, ℕ, ◌+◌, ◌≤◌, ◌<◌, Some, None, IsSome, List, map}
use Rattle.pcm_base.specs.declared.block.BlockRef.{BlockRef}
use Rattle.clip_track.specs.{Kept.Keeps, declared.kept.Kept.Kept}
use Rattle.block_ledger.specs.Counts.{Counts, occurrences, times}
use Rattle.row_ledger.specs.Lists.{ListComes, ListGoes, RowsState, counts_of, list_of, singles_of}

-- the ids of blocks
abbrev pub ids_of : List BlockRef → List ℕ
ids_of bs = map (λ (b : BlockRef). b.id) bs

-- how often an id comes among blocks
abbrev pub times_named : ℕ → List BlockRef → ℕ
times_named id bs = times id (ids_of bs)

-- these blocks are among those that are counted
abbrev pub HasAll : Counts → List BlockRef → Type 0
HasAll counts bs = (id : ℕ) → times_named id bs ≤ occurrences (counts id)

-- this many occurrences went
pub record Dropped (old new : Counts) (bs : List BlockRef) : Type 0 where
  pub counts : (id : ℕ) → occurrences (new id) + times_named id bs ≡ occurrences (old id)
  pub ids : (id : ℕ) → IsSome (new id) ↔ IsSome (old id)

-- the ids of these blocks are there
abbrev pub HasIds : Counts → List BlockRef → Type 0
HasIds counts bs = (id : ℕ) → 0 < times_named id bs → IsSome (counts id)

-- this many came, of ids that are there
pub record Held (old new : Counts) (bs : List BlockRef) : Type 0 where
  pub counts : (id : ℕ) → occurrences (new id) ≡ occurrences (old id) + times_named id bs
  pub ids : (id : ℕ) → IsSome (new id) ↔ IsSome (old id)

-- ---- blocks that are named by themselves, or as a list

-- these blocks are named once more by themselves
pub record Names (old new : RowsState) (bs : List BlockRef) : Type 0 where
  pub held : Held (counts_of old) (counts_of new) bs
  pub singles : (id : ℕ) → singles_of new id ≡ singles_of old id + times_named id bs
  pub lists : (number : ℕ) → list_of new number ≡ list_of old number

-- and once less
pub record Unnames (old new : RowsState) (bs : List BlockRef) : Type 0 where
  pub dropped : Dropped (counts_of old) (counts_of new) bs
  pub singles : (id : ℕ) → singles_of new id + times_named id bs ≡ singles_of old id
  pub lists : (number : ℕ) → list_of new number ≡ list_of old number

-- these blocks are named by themselves
pub record AreSingle (kept : RowsState) (bs : List BlockRef) : Type 0 where
  pub all : HasAll (counts_of kept) bs
  pub singles : (id : ℕ) → times_named id bs ≤ singles_of kept id

-- the blocks of a layout are named once more: by the list of its number, or by themselves
abbrev pub NamesLayout : (old new : RowsState) → ℕ → List BlockRef → Type 0
NamesLayout old new number bs = ListComes old new number (ids_of bs) ⊎ Names old new bs

-- they are named so
abbrev pub HasLayout : RowsState → ℕ → List BlockRef → Type 0
HasLayout kept number bs = (list_of kept number ≡ Some (ids_of bs)) ⊎ ((list_of kept number ≡ None) × AreSingle kept bs)

-- and once less, in the way in which they were named
abbrev pub UnnamesLayout : (old new : RowsState) → ℕ → List BlockRef → Type 0
UnnamesLayout old new number bs = ((list_of old number ≡ Some (ids_of bs)) × ListGoes old new number (ids_of bs))
    ⊎ ((list_of old number ≡ None) × Unnames old new bs)

-- Where the number `base` has a list, a layout keeps so many of its ids at both ends, or it is the layout of that
-- number.
abbrev pub KeepsList : Kept → RowsState → (base number : ℕ) → List BlockRef → Type 0
KeepsList k kept base number bs = (xs : List ℕ) → list_of kept base ≡ Some xs
    → (number ≡ base) ⊎ Keeps k xs (ids_of bs)
