-- What a call leaves of whoever brings samples.
use Rattle.std.specs.Prelude.{◌≡◌}
use Rattle.block_writer.specs.declared.brings.Brings.{Ghosts}

pub record StillBrings {G : Type 0} (bringer : Ghosts G) (old new : G) : Type 0 where
  pub same : bringer.brings new ≡ bringer.brings old
  pub goes : (first : G) → bringer.follows first old → bringer.follows first new
