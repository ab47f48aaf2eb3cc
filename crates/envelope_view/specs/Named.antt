-- The blocks that are there, in whatever order.
use Rattle.std.specs.Prelude.{List, Contains}
use Rattle.disk_model.specs.Disk.{Files}
use Rattle.pcm_base.specs.declared.block.BlockRef.{BlockRef}
use Rattle.sample_block.specs.Sources.{IsNamed, IsWhole}

-- each is one that a disk may have
abbrev pub AreNamed : List BlockRef → Type 0
AreNamed bs = (b : BlockRef) → Contains bs b → IsNamed b

-- the disk has each of them whole
abbrev pub AreWhole : Files → List BlockRef → Type 0
AreWhole files bs = (b : BlockRef) → Contains bs b → IsWhole files b
