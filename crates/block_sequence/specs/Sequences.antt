-- What holds of every sequence of blocks, by its type.
use Rattle.std.specs.Prelude.{◌≡◌, ℕ, ◌≤◌, List, length}
use Rattle.pcm_base.specs.Blocks.{block_lens, blocks_len, NoneEmpty, IsHalfFull}
use Rattle.pcm_base.specs.{declared.limits.TheConstants.MAX_CELLS, declared.block.BlockRef.BlockRef}

-- half full at some block size m; which one, its holder knows
abbrev pub IsHalfFullSomewhere : List BlockRef → Type 0
IsHalfFullSomewhere bs = (m : ℕ) × IsHalfFull m (block_lens bs)

-- the blocks of a sequence, how many they are, and how many samples they hold
pub record IsSequence (bs : List BlockRef) (count len : ℕ) : Type 0 where
  pub full : IsHalfFullSomewhere bs
  pub none_empty : NoneEmpty bs
  pub same_count : length bs ≡ count
  pub same_len : blocks_len bs ≡ len
  pub few : len ≤ MAX_CELLS
