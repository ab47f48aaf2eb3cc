-- A tree whose nodes have the lesser of their children.
use Rattle.std.specs.Prelude.{◌≡◌, ℕ, ◌+◌, ◌*◌, ◌≤◌, ◌<◌, min, Option, Some, None, List, length, slice_index_or}

abbrev pub lesser : Option ℕ → Option ℕ → Option ℕ
lesser None b = b
lesser (Some a) None = Some a
lesser (Some a) (Some b) = Some (min a b)

abbrev pub node : List (Option ℕ) → ℕ → Option ℕ
node nodes k = slice_index_or nodes k None

-- node k has the lesser of its children 2k and 2k + 1
abbrev pub IsParent : List (Option ℕ) → ℕ → Type 0
IsParent nodes k = node nodes k ≡ lesser (node nodes (2 * k)) (node nodes (2 * k + 1))

-- as many nodes as leaves stand before these, and each but the first is a parent
pub record IsTree (leaves : ℕ) (nodes : List (Option ℕ)) : Type 0 where
  pub size : length nodes ≡ 2 * leaves
  pub parents : (k : ℕ) → 1 ≤ k → k < leaves → IsParent nodes k
