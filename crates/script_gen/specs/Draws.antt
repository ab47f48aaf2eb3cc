-- Draws from a number.
use Rattle.std.specs.Prelude.{ℕ, ◌+◌, ◌*◌, ◌/◌, ◌%◌, ◌^◌}

-- the next state of the generator, a linear congruential one modulo 2 ^ 64 with the multiplier and the increment of
-- Knuth's MMIX
unfoldable pub next_state : ℕ → ℕ
next_state x = (x * 6364136223846793005 + 1442695040888963407) % 2 ^ 64

-- what a draw below n gives at this state: of its upper 31 bits, what is left by n
unfoldable pub drawn : ℕ → ℕ → ℕ
drawn n x = (x / 2 ^ 33) % n
