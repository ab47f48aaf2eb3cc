-- Where the disk counts a fault.
use Rattle.std.specs.Prelude.{Result, Ok, Err}
use Rattle.disk_model.specs.declared.store.Store.{Ghosts}
use Rattle.project_journal.specs.Answer.{NoFault, HasFault}
use Rattle.editor_recovery.specs.declared.fault.OpenFault.{OpenFault}
use Rattle.editor_recovery.specs.declared.fault.OpenFault.TheVariants as fault

-- The counts of faults stay but where the disk refused.
abbrev pub Causes : {D T : Type 0} → Ghosts D → (old new : D) → Result T OpenFault → Type 0
Causes disk old new (Err fault.DiskFault) = HasFault disk old new
Causes disk old new (Err _) = NoFault disk old new
Causes disk old new (Ok _) = NoFault disk old new
