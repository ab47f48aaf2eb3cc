-- What a vault gives for a call: a sound that is there or cut short, a refusal that is not of the vault, and the
-- count of its faults.
use Rattle.std.specs.Prelude.{◌≡◌, ℕ, ◌<◌, ◌≤◌, ℤ, false, IsTrue, Option, Some, None, List, Result, Ok, Err}
use Rattle.pcm_base.specs.{declared.entry.SoundMove.SoundMove, declared.refusal.Refusal.Refusal}
use Rattle.pcm_base.specs.{declared.wav.WavFault.TheVariants.Truncated, Causes.Rose, Wave.wav_of}
use Rattle.block_writer.specs.Brought.{Brought}
use Rattle.pcm_base.specs.declared.refusal.Refusal.TheVariants as refusal

-- the sound is there, and says these channels at this rate
abbrev pub HasChannels : Option (List ℕ) → ℕ → List (List ℤ) → Type 0
HasChannels None rate channels = ⊥
HasChannels (Some bytes) rate channels = wav_of bytes ≡ Ok (record { rate = rate; channels = channels })

-- a sound that a call reads, and leaves as it was
abbrev pub left_as : Option (List ℕ) → SoundMove
left_as sound = record { before = sound; after = sound }

-- a sound is cut short: fewer bytes came than it should have
abbrev pub IsCutShort : Refusal → Type 0
IsCutShort (refusal.BadWav (Truncated want have)) = have < want
IsCutShort why = ⊥

-- the same as an answer
abbrev pub IfCutShort : {T : Type 0} → Result T Refusal → Type 0
IfCutShort (Ok x) = ⊥
IfCutShort (Err why) = IsCutShort why

-- a refusal that is neither of the vault nor of the bytes that it gave
abbrev pub IsInside : Refusal → Type 0
IsInside refusal.VaultFault = ⊥
IsInside (refusal.BadWav fault) = ⊥
IsInside why = Unit {0}

-- a refusal is neither of the vault nor of the bytes that it gave, unless samples are brought that may fail to come; and
-- of bytes it says that fewer came than it had said
abbrev pub IsInsideOr : Brought → Refusal → Type 0
IsInsideOr b refusal.VaultFault = IsTrue b.may_fail
IsInsideOr b (refusal.BadWav (Truncated want have)) = IsTrue b.may_fail × (have < want) × (b.tells ≡ false)
IsInsideOr b (refusal.BadWav fault) = ⊥
IsInsideOr b why = Unit {0}

-- the vault's count of faults rises where it failed, and stays elsewhere
abbrev pub VaultCountedBy : Refusal → ℕ → ℕ → Type 0
VaultCountedBy refusal.VaultFault old new = Rose old new × (old ≤ new)
VaultCountedBy why old new = new ≡ old

abbrev pub VaultCounted : {T : Type 0} → Result T Refusal → ℕ → ℕ → Type 0
VaultCounted (Ok x) old new = new ≡ old
VaultCounted (Err why) old new = VaultCountedBy why old new
