-- What is printed of a call that is refused as a whole.
use Rattle.std.specs.Prelude.{ℕ, ◌++◌, List, codes}
use Rattle.script_text.specs.{declared.call_fault.CallFault.CallFault, Text.with_number, Text.damage_text}
use Rattle.script_text.specs.declared.call_fault.CallFault.TheVariants as fault

-- why, by its name, and its numbers
abbrev pub call_fault_text : CallFault → List ℕ
call_fault_text fault.Usage = codes "usage"
call_fault_text fault.Exists = codes "Exists"
call_fault_text fault.Absent = codes "Absent"
call_fault_text (fault.Damaged file at want have) = damage_text file at want have
call_fault_text (fault.Foreign file) = codes "Foreign" ++ with_number file
call_fault_text fault.DiskFault = codes "DiskFault"
call_fault_text fault.NoMemory = codes "NoMemory"

-- the line, ended by LF
abbrev pub refused_text : CallFault → List ℕ
refused_text why = codes "refused " ++ call_fault_text why ++ codes "\n"
