-- Calls over a vault that is read in parts.
use Rattle.std.specs.Prelude.{◌≡◌, ◌⊎◌, ◌<◌, ◌≤◌, ℕ, List, take, drop, codes, Result, Ok, Err, MatchResult}
use Rattle.std.specs.Str.{bytes_eq}
use Rattle.pcm_base.specs.Wave.{u32_at, wav_of}
use Rattle.pcm_base.specs.{Causes.Rose, declared.wav.WavFault.WavFault, declared.refusal.Refusal.Refusal}
use Rattle.wav_pcm.specs.declared.fault.SoundFault.TheVariants.{NoFile, Vault, BadWav, TooLong}
use Rattle.wav_pcm.specs.{declared.fault.SoundFault.SoundFault, declared.parts.Chunk.Chunk}
use Rattle.pcm_base.specs.declared.wav.WavFault.TheVariants as wav
use Rattle.pcm_base.specs.declared.refusal.Refusal.TheVariants as refusal

-- a number of bytes from a place on
abbrev pub part : ℕ → ℕ → List ℕ → List ℕ
part at count bytes = take count (drop at bytes)

-- the reasons of a line
abbrev pub sound_refusal : SoundFault → Refusal
sound_refusal NoFile = refusal.NoFile
sound_refusal Vault = refusal.VaultFault
sound_refusal (BadWav fault) = refusal.BadWav fault
sound_refusal (TooLong count) = refusal.TooLong count

-- nothing but the vault's own fault
abbrev pub IsVaultAlone : SoundFault → Type 0
IsVaultAlone NoFile = ⊥
IsVaultAlone Vault = Unit {0}
IsVaultAlone (BadWav fault) = ⊥
IsVaultAlone (TooLong count) = ⊥

-- fewer bytes came than were wanted
abbrev pub HasFewer : WavFault → Type 0
HasFewer (wav.Truncated want have) = have < want
HasFewer fault = ⊥

-- the same, or the vault failed
abbrev pub IsShort : SoundFault → Type 0
IsShort NoFile = ⊥
IsShort Vault = Unit {0}
IsShort (BadWav fault) = HasFewer fault
IsShort (TooLong count) = ⊥

-- fewer bytes came, or some bytes say this fault
abbrev pub IsOfSome : WavFault → Type 0
IsOfSome fault = HasFewer fault ⊎ ((bytes : List ℕ) × (wav_of bytes ≡ Err fault))

-- the reason is that of some sound, or of one that is cut short, unless the vault failed
abbrev pub IsSomeReason : SoundFault → Type 0
IsSomeReason NoFile = Unit {0}
IsSomeReason Vault = Unit {0}
IsSomeReason (BadWav fault) = IsOfSome fault
IsSomeReason (TooLong count) = ⊥

-- the fault is the one that the bytes say, unless the vault failed
abbrev pub IsFault : {U : Type 0} → SoundFault → Result U WavFault → Type 0
IsFault NoFile said = ⊥
IsFault Vault said = Unit {0}
IsFault (BadWav fault) said = said ≡ Err fault
IsFault (TooLong count) said = ⊥

-- a call answers what the bytes say, as a value of its own seen by f, unless the vault failed
abbrev pub IsFound : {T U : Type 0} → (T → U) → Result T SoundFault → Result U WavFault → Type 0
IsFound f result said = MatchResult result (λ value. said ≡ Ok (f value)) (λ why. IsFault why said)

-- the vault's count of faults rises where the vault failed, and stays elsewhere
abbrev pub SoundCountedBy : SoundFault → ℕ → ℕ → Type 0
SoundCountedBy NoFile old new = new ≡ old
SoundCountedBy Vault old new = Rose old new × (old ≤ new)
SoundCountedBy (BadWav fault) old new = new ≡ old
SoundCountedBy (TooLong count) old new = new ≡ old

abbrev pub SoundCounted : {T : Type 0} → Result T SoundFault → ℕ → ℕ → Type 0
SoundCounted result old new = MatchResult result (λ _. new ≡ old) (λ why. SoundCountedBy why old new)

-- a reason of a line is that of a fault of which P holds
abbrev pub IsFor : (SoundFault → Type 0) → Refusal → Type 0
IsFor P reason = (why : SoundFault) × (reason ≡ sound_refusal why) × P why

abbrev pub RefusalCounted : {T : Type 0} → Result T Refusal → ℕ → ℕ → Type 0
RefusalCounted result old new =
    MatchResult result (λ _. new ≡ old) (λ reason. IsFor (λ why. SoundCountedBy why old new) reason)

-- the bytes begin with this chunk
pub record IsChunk (chunk : Chunk) (bytes : List ℕ) : Type 0 where
  pub body : chunk.is_data ≡ bytes_eq (take 4 bytes) (codes "data")
  pub form : chunk.is_format ≡ bytes_eq (take 4 bytes) (codes "fmt ")
  pub size : chunk.size ≡ u32_at bytes 4
