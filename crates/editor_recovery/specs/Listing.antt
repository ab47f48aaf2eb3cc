-- What a listing of the files answers.
use Rattle.std.specs.Prelude.{◌↔◌, ℕ, IsTrue, IsSome, Contains, Result, Ok, Err, List}
use Rattle.disk_model.specs.Disk.{Files}
use Rattle.editor_recovery.specs.declared.fault.OpenFault.{OpenFault}
use Rattle.editor_recovery.specs.Files.{IsFirstForeign, NoForeign, is_foreign}
use Rattle.editor_recovery.specs.declared.fault.OpenFault.TheVariants as fault

-- these are the numbers of the files
abbrev pub AreFiles : Files → List ℕ → Type 0
AreFiles files listed = (n : ℕ) → Contains listed n ↔ IsSome (files n)

-- the disk's refusal, or want of memory
abbrev pub IsRefusal : OpenFault → Type 0
IsRefusal fault.DiskFault = Unit {0}
IsRefusal fault.NoMemory = Unit {0}
IsRefusal _ = ⊥

-- What may refuse an opening, whatever the store tells: never that a project is there, and a foreign file of a foreign
-- number alone.
abbrev pub IsOpenRefusal : OpenFault → Type 0
IsOpenRefusal fault.Absent = Unit {0}
IsOpenRefusal fault.Exists = ⊥
IsOpenRefusal (fault.Damaged file at want have) = Unit {0}
IsOpenRefusal (fault.Foreign file) = IsTrue (is_foreign file)
IsOpenRefusal fault.DiskFault = Unit {0}
IsOpenRefusal fault.NoMemory = Unit {0}

-- the first foreign file is reported
abbrev pub TellsForeign : Files → OpenFault → Type 0
TellsForeign files (fault.Foreign file) = IsFirstForeign files file
TellsForeign files fault.DiskFault = Unit {0}
TellsForeign files fault.NoMemory = Unit {0}
TellsForeign files _ = ⊥

-- What a listing answers: the numbers of the files, none of which is foreign, or the first that is.
abbrev pub Lists : {T : Type 0} → Files → (T → List ℕ) → Result T OpenFault → Type 0
Lists files listed (Ok v) = AreFiles files (listed v) × NoForeign files
Lists files listed (Err e) = TellsForeign files e
