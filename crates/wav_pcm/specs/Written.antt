-- What is written of a WAV file, a buffer at a time.
use Rattle.std.specs.Prelude.{◌≡◌, ◌⊎◌, ◌<◌, ◌≤◌, ◌+◌, ◌*◌, ℕ, List, length, take, Option, Some}
use Rattle.edit_ports.specs.Sounds.{sound_bytes}
use Rattle.wav_pcm.specs.declared.fault.SoundFault.TheVariants.{NoFile, Vault, BadWav, TooLong}
use Rattle.wav_pcm.specs.{Wavs.FitsFile, declared.fault.SoundFault.SoundFault}

-- a sound is as it was, or holds a text's first bytes
abbrev pub MayBegin : List ℕ → Option (List ℕ) → Option (List ℕ) → Type 0
MayBegin text old new = (new ≡ old) ⊎ ((count : ℕ) × (count ≤ length text) × (new ≡ Some (take count text)))

-- TooLong comes for frames that do not fit a file, and has their number; any other fault is the vault's
abbrev pub IsNotStarted : ℕ → SoundFault → Type 0
IsNotStarted frames NoFile = ⊥
IsNotStarted frames Vault = FitsFile frames
IsNotStarted frames (BadWav fault) = ⊥
IsNotStarted frames (TooLong count) = (count ≡ frames) × (4294967295 < 36 + 4 * frames)

abbrev pub IsThere : Option (List ℕ) → Type 0
IsThere sound = sound ≡ Some (sound_bytes sound)
