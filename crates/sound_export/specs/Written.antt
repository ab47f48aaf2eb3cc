-- What is written of a mix.
use Rattle.std.specs.Prelude.{◌≡◌, ◌<◌, ◌≤◌, ◌+◌, ◌*◌, ℕ, Result, Ok, Err, MatchResult}
use Rattle.pcm_base.specs.{Causes.Rose, declared.refusal.Refusal.Refusal}
use Rattle.block_store.specs.{declared.fault.BlockFault.BlockFault, Reasons.reason_of}
use Rattle.wav_pcm.specs.Wavs.{FitsFile}
use Rattle.sound_export.specs.declared.fault.ExportFault.{ExportFault}
use Rattle.sound_export.specs.declared.fault.ExportFault.TheVariants.{TooLong, Block, VaultFault}
use Rattle.pcm_base.specs.declared.refusal.Refusal.TheVariants as refusal
use Rattle.block_store.specs.declared.fault.BlockFault.TheVariants as block

-- the disk or the vault was at fault
abbrev pub IsOfDevice : ExportFault → Type 0
IsOfDevice (TooLong frames) = ⊥
IsOfDevice (Block why) = Unit {0}
IsOfDevice VaultFault = Unit {0}

-- TooLong comes for a mix whose frames do not fit a file, and says how many they are; any other fault for one that
-- fits
abbrev pub IsLengthFault : ℕ → ExportFault → Type 0
IsLengthFault len (TooLong frames) = (frames ≡ len) × (4294967295 < 36 + 4 * len)
IsLengthFault len (Block why) = FitsFile len
IsLengthFault len VaultFault = FitsFile len

-- what reads say: nothing is read of a mix that is too long, and where the vault failed each read was answered
abbrev pub read_part : ExportFault → Result (Unit {0}) BlockFault
read_part (TooLong frames) = Ok tt
read_part (Block why) = Err why
read_part VaultFault = Ok tt

abbrev pub disk_part : {T : Type 0} → Result T ExportFault → Result (Unit {0}) BlockFault
disk_part (Ok x) = Ok tt
disk_part (Err why) = read_part why

-- no file is at fault
abbrev pub IsNoDamage : ExportFault → Type 0
IsNoDamage (TooLong frames) = Unit {0}
IsNoDamage (Block why) = why ≡ block.DiskFault
IsNoDamage VaultFault = Unit {0}

-- the fault where a file was not begun, by its reason
abbrev pub fault_of_start : Refusal → ExportFault
fault_of_start (refusal.TooLong frames) = TooLong frames
fault_of_start why = VaultFault

-- the reason of a line
abbrev pub refusal_of : ExportFault → Refusal
refusal_of (TooLong frames) = refusal.TooLong frames
refusal_of (Block why) = reason_of why
refusal_of VaultFault = refusal.VaultFault

-- the vault's count of faults rises where the vault failed, and stays elsewhere
abbrev pub ExportCountedBy : ExportFault → ℕ → ℕ → Type 0
ExportCountedBy (TooLong frames) old new = new ≡ old
ExportCountedBy (Block why) old new = new ≡ old
ExportCountedBy VaultFault old new = Rose old new × (old ≤ new)

abbrev pub ExportCounted : {T : Type 0} → Result T ExportFault → ℕ → ℕ → Type 0
ExportCounted result old new = MatchResult result (λ _. new ≡ old) (λ why. ExportCountedBy why old new)
