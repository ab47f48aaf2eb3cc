-- A fault of a block as one of a project.
use Rattle.block_store.specs.declared.fault.BlockFault.{BlockFault}
use Rattle.editor_recovery.specs.declared.fault.OpenFault.{OpenFault}
use Rattle.block_store.specs.declared.fault.BlockFault.TheVariants as block
use Rattle.editor_recovery.specs.declared.fault.OpenFault.TheVariants as fault

abbrev pub fault_of : BlockFault → OpenFault
fault_of block.DiskFault = fault.DiskFault
fault_of (block.Damaged file found) = fault.Damaged file found.at found.want found.have
