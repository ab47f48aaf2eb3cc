-- Which ids are of blocks.
use Rattle.std.specs.Prelude.{ℕ, Bool, nat_le, nat_lt, ◌&&◌, ◌≤◌, ◌<◌}
use Rattle.pcm_base.specs.declared.limits.TheConstants.{FIRST_BLOCK}

-- an id of a block that was given
abbrev pub IsGiven : ℕ → ℕ → Type 0
IsGiven next id = (FIRST_BLOCK ≤ id) × (id < next)

-- the same as a test
abbrev pub is_given : ℕ → ℕ → Bool
is_given next id = nat_le FIRST_BLOCK id && nat_lt id next

-- an id that a block may have
abbrev pub is_block : ℕ → Bool
is_block id = nat_le FIRST_BLOCK id
