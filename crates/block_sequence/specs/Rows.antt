-- Rows of references, and parts of a list.
use Rattle.std.specs.Prelude.{◌≡◌, ℕ, ◌-◌, ◌≤◌, ◌<◌, List, [], ◌∷◌, ◌++◌, length, take, drop}
use Rattle.pcm_base.specs.{Blocks.blocks_len, declared.block.BlockRef.BlockRef}
use Rattle.pcm_base.specs.declared.limits.TheConstants.{MAX_CELLS}

-- rows, one after another
abbrev pub flat : List (List BlockRef) → List BlockRef
flat [] = []
flat (r ∷ rs) = r ++ flat rs

-- the elements from one place up to another, or as many of them as there are
abbrev pub from_to : {A : Type 0} → ℕ → ℕ → List A → List A
from_to from to xs = take (to - from) (drop from xs)

-- blocks, with those from one place up to another replaced
abbrev pub spliced : ℕ → ℕ → List BlockRef → List BlockRef → List BlockRef
spliced from to middle bs = take from bs ++ (middle ++ drop to bs)

-- the references of one row, and how many samples they hold
pub record IsRow (bs : List BlockRef) (len : ℕ) : Type 0 where
  pub some : 0 < length bs
  pub short : length bs ≤ 1024
  pub same_len : blocks_len bs ≡ len

-- rows that are laid so far, and how many samples they hold
pub record AreLaid (bs : List BlockRef) (len : ℕ) : Type 0 where
  pub same_len : blocks_len bs ≡ len
  pub few : len ≤ MAX_CELLS

-- a place between two rows: how many rows lie before it, and how many references
pub record IsEdge (rows : List (List BlockRef)) (row at : ℕ) : Type 0 where
  pub within : row ≤ length rows
  pub same_at : length (flat (take row rows)) ≡ at
