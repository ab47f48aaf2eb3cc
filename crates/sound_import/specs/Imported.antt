-- What looking for a sound of a vault answers.
use Rattle.std.specs.Prelude.{◌≡◌, ℕ, List, Option, Some, Result, MatchResult}
use Rattle.pcm_base.specs.{State.State, Refusals.import_tests, declared.refusal.Refusal.Refusal}
use Rattle.wav_pcm.specs.declared.fault.SoundFault.{SoundFault}
use Rattle.wav_pcm.specs.declared.fault.SoundFault.TheVariants.{NoFile, Vault, BadWav, TooLong}
use Rattle.wav_pcm.specs.Parts.{HasFewer, SoundCountedBy, sound_refusal}
use Rattle.sound_import.specs.declared.fault.ImportFault.{ImportFault}
use Rattle.sound_import.specs.declared.fault.ImportFault.TheVariants.{Sound, RateDiffers}
use Rattle.pcm_base.specs.declared.refusal.Refusal.TheVariants as refusal

-- the model refuses an import of this sound for this reason, whatever the project is
abbrev pub Refuses : Option (List ℕ) → ℕ → Refusal → Type 0
Refuses sound rate reason = (s : State) → import_tests rate s sound ≡ Some reason

-- a reason is the model's, unless the vault failed
abbrev pub IsRefusedAs : Option (List ℕ) → ℕ → SoundFault → Type 0
IsRefusedAs sound rate NoFile = Refuses sound rate refusal.NoFile
IsRefusedAs sound rate Vault = Unit {0}
IsRefusedAs sound rate (BadWav fault) = Refuses sound rate (refusal.BadWav fault)
IsRefusedAs sound rate (TooLong frames) = ⊥

abbrev pub IsRefused : Option (List ℕ) → ℕ → ImportFault → Type 0
IsRefused sound rate (Sound why) = IsRefusedAs sound rate why
IsRefused sound rate (RateDiffers have want) = Refuses sound rate (refusal.RateDiffers have want)

-- the sound is cut short: fewer bytes came than it should have
abbrev pub IsCutAs : SoundFault → Type 0
IsCutAs NoFile = ⊥
IsCutAs Vault = ⊥
IsCutAs (BadWav fault) = HasFewer fault
IsCutAs (TooLong frames) = ⊥

abbrev pub IsCutShort : ImportFault → Type 0
IsCutShort (Sound why) = IsCutAs why
IsCutShort (RateDiffers have want) = ⊥

-- the vault's count of faults rises where the vault failed, and stays elsewhere
abbrev pub ImportCountedBy : ImportFault → ℕ → ℕ → Type 0
ImportCountedBy (Sound why) old new = SoundCountedBy why old new
ImportCountedBy (RateDiffers have want) old new = new ≡ old

abbrev pub ImportCounted : {T : Type 0} → Result T ImportFault → ℕ → ℕ → Type 0
ImportCounted result old new = MatchResult result (λ _. new ≡ old) (λ why. ImportCountedBy why old new)

-- the reasons of a line
abbrev pub import_refusal : ImportFault → Refusal
import_refusal (Sound why) = sound_refusal why
import_refusal (RateDiffers have want) = refusal.RateDiffers have want
