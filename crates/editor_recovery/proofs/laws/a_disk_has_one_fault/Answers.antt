-- Of the cases that a fault may have, no two hold of one disk.
use Rattle.editor_recovery.proofs.OneFault.{one_fault}
use Rattle.editor_recovery.proofs.laws.a_disk_has_one_fault.Goals as goal

pub returns : goal.returns
returns c = one_fault
