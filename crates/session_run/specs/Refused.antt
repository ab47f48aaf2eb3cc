-- A call that is refused as a whole, and what is printed.
use Rattle.std.specs.Prelude.{◌≡◌, ℕ, [], false, None}
use Rattle.editor_recovery.specs.declared.fault.OpenFault.{OpenFault}
use Rattle.script_text.specs.{declared.call_fault.CallFault.CallFault, CallFault.refused_text}
use Rattle.session_run.specs.{declared.ending.Done.Done, Streams.Prints, Streams.Streams}
use Rattle.editor_recovery.specs.declared.fault.OpenFault.TheVariants as fault
use Rattle.script_text.specs.declared.call_fault.CallFault.TheVariants as call

abbrev pub call_fault_of : OpenFault → CallFault
call_fault_of fault.Absent = call.Absent
call_fault_of fault.Exists = call.Exists
call_fault_of (fault.Damaged file at want have) = call.Damaged file at want have
call_fault_of (fault.Foreign file) = call.Foreign file
call_fault_of fault.DiskFault = call.DiskFault
call_fault_of fault.NoMemory = call.NoMemory

-- the status where no count of faults rose
abbrev pub status_of_fault : CallFault → ℕ
status_of_fault call.Usage = 2
status_of_fault call.Exists = 3
status_of_fault call.Absent = 3
status_of_fault (call.Damaged file at want have) = 3
status_of_fault (call.Foreign file) = 3
status_of_fault call.DiskFault = 4
status_of_fault call.NoMemory = 5

-- what a word leaves that ran no script
pub record IsDone {D : Type 0} (status : ℕ) (done : Done D) : Type 0 where
  pub status_is : done.status ≡ status
  pub opened : done.opened ≡ false
  pub first : done.first_commit ≡ 0
  pub last : done.last_commit ≡ 0
  pub record_none : done.record_commit ≡ None
  pub commits : done.commits ≡ []
  pub pieces : done.pieces ≡ []

-- The line `refused ..` was printed, and nothing was opened.
pub record IsRefused {D : Type 0} (fault : CallFault) (s : Streams) (done : Done D) : Type 0 where
  pub printed : Prints s (refused_text fault)
  pub done_is : IsDone (status_of_fault fault) done
