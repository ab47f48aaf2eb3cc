-- A history in memory: the model's history, and for how many points there is memory.
use Rattle.std.specs.Prelude.{ℕ}
use Rattle.pcm_base.specs.History.{History}

pub record Stored (P : Type 0) : Type 0 where
  pub history : History P
  pub capacity : ℕ
