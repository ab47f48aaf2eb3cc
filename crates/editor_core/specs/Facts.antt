-- What is reported of a studio.
use Rattle.std.specs.Prelude.{◌≡◌, ℕ, ◌<◌, List, length}
use Rattle.block_ledger.specs.Counts.{AreAll}
use Rattle.editor_state.specs.{Core.Core, Occurrences.times_named, Studios.named_blocks}
use Rattle.editor_core.specs.declared.facts.Facts.{Facts}

-- the ids of the blocks that a point, a pin or the clipboard names, each once
abbrev pub AreBlocksOf : {D : Type 0} → Core D → List ℕ → Type 0
AreBlocksOf s = AreAll (λ id. 0 < times_named id (named_blocks s))

pub record AreFactsOf {D : Type 0} (s : Core D) (facts : Facts) : Type 0 where
  pub rate : facts.rate ≡ s.rate
  pub block_size : facts.block_size ≡ s.block_size
  pub depth : facts.depth ≡ s.history.depth
  pub points : facts.points ≡ length s.history.points
  pub cursor : facts.cursor ≡ s.history.cursor
  pub blocks : (ids : List ℕ) × AreBlocksOf s ids × (facts.blocks ≡ length ids)
  pub any : (ids : List ℕ) → AreBlocksOf s ids → facts.blocks ≡ length ids
