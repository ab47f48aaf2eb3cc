-- Blocks of four samples each.
use Rattle.std.specs.Prelude.{◌≡◌, List}
use Rattle.std.specs.List.{AllByRecursion}
use Rattle.pcm_base.specs.declared.block.BlockRef.{BlockRef}

abbrev pub AreFours : List BlockRef → Type 0
AreFours = AllByRecursion (λ (b : BlockRef). b.len ≡ 4)
