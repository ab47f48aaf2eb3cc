-- What a check of a block's file answers.
use Rattle.std.specs.Prelude.{◌≡◌, ℕ, ℤ, List, length, Option, Some, None, Result, Ok, Err}
use Rattle.disk_model.specs.Disk.{Files}
use Rattle.sample_block.specs.{Blocks.blocks, declared.damage.Damaged.Damaged}
use Rattle.block_store.specs.declared.fault.BlockFault.{BlockFault}
use Rattle.block_store.specs.declared.fault.BlockFault.TheVariants as fault

-- Ok comes where nothing differs in the file of this number, and else the answer is what differs. The disk may fail.
abbrev pub Checks : {T : Type 0} → ℕ → Option Damaged → Result T BlockFault → Type 0
Checks id found (Ok x) = found ≡ None
Checks id found (Err fault.DiskFault) = Unit {0}
Checks id found (Err (fault.Damaged file differs)) = (file ≡ id) × (found ≡ Some differs)

-- the disk has the block, of this many samples
abbrev pub IsWhole : Files → ℕ → ℕ → Type 0
IsWhole files id len = (xs : List ℤ) × (blocks files id ≡ Some xs) × (length xs ≡ len)
