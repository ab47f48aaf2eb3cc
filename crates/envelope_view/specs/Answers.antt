-- When the columns of a layout are refused.
use Rattle.std.specs.Prelude.{◌≡◌, ◌⊎◌, ◌≤◌, ℕ, ◌-◌, List, Option, Some, None, Result, Ok, Err, MatchResult}
use Rattle.disk_model.specs.Disk.{Files}
use Rattle.pcm_base.specs.Refusals.{◌otherwise◌, bad_range, bad_columns}
use Rattle.pcm_base.specs.{declared.block.BlockRef.BlockRef, declared.refusal.Refusal.Refusal, Causes.Rose}
use Rattle.block_store.specs.{declared.fault.BlockFault.BlockFault, Reads.IsFaultIn}
use Rattle.pcm_base.specs.declared.refusal.Refusal.TheVariants as refusal
use Rattle.block_store.specs.declared.fault.BlockFault.TheVariants as fault

-- the model's tests of a range of this many cells, and of a number of columns
abbrev pub column_tests : ℕ → ℕ → ℕ → ℕ → Option Refusal
column_tests from to columns len = (bad_range from to len) otherwise (bad_columns columns (to - from))

-- a test is passed, or answers its reason
abbrev pub Passes : Option Refusal → Result (Unit {0}) Refusal → Type 0
Passes test result = MatchResult result (λ _. test ≡ None) (λ reason. test ≡ Some reason)

-- one of the reasons of these tests
abbrev pub IsOfTests : Refusal → Type 0
IsOfTests refusal.BadRange = Unit {0}
IsOfTests refusal.BadColumns = Unit {0}
IsOfTests _ = ⊥

-- want of memory, or a fault of the disk or of a block
abbrev pub IsOfReads : Refusal → Type 0
IsOfReads refusal.NoMemory = Unit {0}
IsOfReads refusal.DiskFault = Unit {0}
IsOfReads (refusal.Damaged file at want have) = Unit {0}
IsOfReads _ = ⊥

-- Columns are given where the test passes. Else the test's reason is; and where it passes, none but one of reads.
abbrev pub AnswersTest : {A : Type 0} → Option Refusal → Result A Refusal → Type 0
AnswersTest test result =
    MatchResult result (λ _. test ≡ None) (λ reason. (test ≡ Some reason) ⊎ ((test ≡ None) × IsOfReads reason))

-- damage that is told is that of one of these blocks
abbrev pub IsDamagedIn : Files → List BlockRef → Refusal → Type 0
IsDamagedIn files bs (refusal.Damaged file at want have) =
    IsFaultIn files bs (fault.Damaged file (record { at = at; want = want; have = have }))
IsDamagedIn files bs _ = Unit {0}

-- no damage is told
abbrev pub IsUndamaged : Refusal → Type 0
IsUndamaged (refusal.Damaged file at want have) = ⊥
IsUndamaged _ = Unit {0}

-- the count of failed reads rises where the disk failed, and stays elsewhere
abbrev pub IsCountedBy : Refusal → ℕ → ℕ → Type 0
IsCountedBy refusal.DiskFault old new = Rose old new × (old ≤ new)
IsCountedBy _ old new = new ≡ old

-- what reads say: nothing is read where a test refuses, and where memory is wanting each read was answered
abbrev pub read_part : Refusal → Result (Unit {0}) BlockFault
read_part refusal.DiskFault = Err fault.DiskFault
read_part (refusal.Damaged file at want have) =
    Err (fault.Damaged file (record { at = at; want = want; have = have }))
read_part _ = Ok tt

abbrev pub disk_part : {A : Type 0} → Result A Refusal → Result (Unit {0}) BlockFault
disk_part (Ok x) = Ok tt
disk_part (Err why) = read_part why
