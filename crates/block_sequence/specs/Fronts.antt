-- How many blocks stand at the front of two lists.
use Rattle.std.specs.Prelude.{ℕ, suc, ◌==◌, ◌&&◌, Bool, if◌then◌else◌, List, [], ◌∷◌}
use Rattle.pcm_base.specs.declared.block.BlockRef.{BlockRef}

abbrev pub is_block : BlockRef → BlockRef → Bool
is_block a b = (a.id == b.id) && (a.len == b.len)

-- how many blocks stand at the front of both
abbrev pub common : List BlockRef → List BlockRef → ℕ
common [] ys = 0
common (a ∷ xs) [] = 0
common (a ∷ xs) (b ∷ ys) = if is_block a b then suc (common xs ys) else 0
