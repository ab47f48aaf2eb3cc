-- Counts of occurrences, as blocks come and go.
use Rattle.std.specs.Prelude.{◌≡◌, ◌↔◌, ℕ, ◌+◌, IsSome, List}
use Rattle.pcm_base.specs.declared.block.BlockRef.{BlockRef}
use Rattle.block_ledger.specs.Counts.{Counts, occurrences}
use Rattle.layout_uses.specs.Tallies.{Uses}
pub use Rattle.layout_uses.specs.Occurrences.{AreSingle, Dropped, HasAll, HasIds, Held, Names, Unnames, times_named}

-- the counts after one list of blocks came in the place of another
pub record Moves (old new : Counts) (before after : List BlockRef) : Type 0 where
  pub counts : (id : ℕ) → occurrences (new id) + times_named id before ≡ occurrences (old id) + times_named id after
  pub ids : (id : ℕ) → IsSome (new id) ↔ IsSome (old id)

-- what is named by itself after that; the uses of layouts and their lists stay
pub record MovesSingles (old new : Uses) (before after : List BlockRef) : Type 0 where
  pub counts : new.counts ≡ old.counts
  pub lists : new.lists ≡ old.lists
  pub singles : (id : ℕ) → new.singles id + times_named id before ≡ old.singles id + times_named id after
