-- What is found of the head of a WAV file, beside what its bytes say.
use Rattle.std.specs.Prelude.{◌≡◌, ◌≢◌, ◌⊎◌, ◌≤◌, ◌<◌, ◌+◌, ◌*◌, ◌^◌, ℕ, List, length, take, drop, Option, Some, None}
use Rattle.std.specs.Prelude.{Result, Ok, Err, MatchResult, ◌-◌, ℤ, [], slice_index_or, All, FitsSigned}
use Rattle.std.specs.Int.{w16}
use Rattle.pcm_base.specs.{Wave.Sound, Wave.sound_of, Wave.wav_of, Wave.channel_of, declared.wav.WavFault.WavFault}
use Rattle.wav_pcm.specs.declared.fault.SoundFault.TheVariants.{NoFile, Vault, BadWav, TooLong}
use Rattle.wav_pcm.specs.Parts.{part, IsFault}
use Rattle.wav_pcm.specs.{declared.fault.SoundFault.SoundFault, declared.heads.WavHead.WavHead}
use Rattle.pcm_base.specs.declared.wav.WavFault.TheVariants as wav

-- how many bytes a number of frames of a head has
abbrev pub bytes_of : WavHead → ℕ → ℕ
bytes_of head count = 2 * head.channels * count

-- a reader of samples asks that of a head
pub record HasShape (head : WavHead) : Type 0 where
  pub some : 0 < head.channels
  pub few : head.channels ≤ 8
  pub ends : head.at + bytes_of head head.frames < 2 ^ 64

-- the bytes of all frames
abbrev pub frames_in : WavHead → List ℕ → List ℕ
frames_in head bytes = part head.at (bytes_of head head.frames) bytes

abbrev pub sound_at : WavHead → List ℕ → Sound
sound_at head bytes = sound_of (record { channels = head.channels; rate = head.rate }) (frames_in head bytes)

-- the frames are there, and they are the sound that is found
pub record Finds (head : WavHead) (bytes : List ℕ) (said : Result Sound WavFault) : Type 0 where
  pub within : head.at + bytes_of head head.frames ≤ length bytes
  pub says : said ≡ Ok (sound_at head bytes)

-- a head is found for the sound, or what refuses it, unless the vault failed
abbrev pub IsHeadFound : List ℕ → Result WavHead SoundFault → Result Sound WavFault → Type 0
IsHeadFound bytes result said = MatchResult result (λ head. Finds head bytes said) (λ why. IsFault why said)

-- The same of a `data` chunk, of which these are the bytes to the end of the file, from this place on. No byte before
-- it matters.
abbrev pub IsDataFound : ℕ → List ℕ → Result WavHead WavFault → Result Sound WavFault → Type 0
IsDataFound at rest result said = MatchResult result
    (λ head. (head.at ≡ at) × (bytes_of head head.frames ≤ length rest)
    × (said ≡ Ok (sound_of (record { channels = head.channels; rate = head.rate })
    (take (bytes_of head head.frames) rest))))
    (λ why. said ≡ Err why)

-- how many bytes a `data` chunk of this size has, of those that are left
abbrev pub IsSized : ℕ → ℕ → ℕ → Type 0
IsSized size left count =
    ((size ≡ 0xFFFFFFFF) × (count ≡ left)) ⊎ ((size ≢ 0xFFFFFFFF) × (count ≡ size) × (size ≤ left))

-- the head is that of the sound
abbrev pub IsHeadOf : Option (List ℕ) → WavHead → Type 0
IsHeadOf None head = ⊥
IsHeadOf (Some bytes) head = Finds head bytes (wav_of bytes)

-- a sound that is there is refused
abbrev pub IsRefusedWith : Option (List ℕ) → WavFault → Type 0
IsRefusedWith None fault = ⊥
IsRefusedWith (Some bytes) fault = wav_of bytes ≡ Err fault

-- a reason is what the sound says, unless the vault failed
abbrev pub IsRefusedFor : Option (List ℕ) → SoundFault → Type 0
IsRefusedFor sound NoFile = sound ≡ None
IsRefusedFor sound Vault = Unit {0}
IsRefusedFor sound (BadWav fault) = IsRefusedWith sound fault
IsRefusedFor sound (TooLong count) = ⊥

-- ---- the samples of a channel

-- they fit 16 bits, which their type says
abbrev pub FitSamples : List ℤ → Type 0
FitSamples samples = All (λ s. FitsSigned w16 s) samples

-- the place of a frame
abbrev pub place_of : WavHead → ℕ → ℕ
place_of head from = head.at + bytes_of head from

-- the samples are those of a channel, from a frame on, in bytes that are all there
abbrev pub IsChannelOf : WavHead → ℕ → List ℕ → ℕ → List ℤ → Type 0
IsChannelOf head from bytes c samples = (bytes_of head (length samples) ≤ length bytes - place_of head from)
    × (samples ≡ channel_of head.channels (part (place_of head from) (bytes_of head (length samples)) bytes) c)

-- fewer of the bytes of these frames are there, unless the vault failed
abbrev pub IsCut : WavHead → ℕ → ℕ → List ℕ → SoundFault → Type 0
IsCut head from count bytes NoFile = ⊥
IsCut head from count bytes Vault = Unit {0}
IsCut head from count bytes (BadWav fault) =
    (fault ≡ wav.Truncated (bytes_of head count) (length bytes - place_of head from))
    × (length bytes - place_of head from < bytes_of head count)
IsCut head from count bytes (TooLong frames) = ⊥

-- the samples are those that the bytes say of a channel, from a frame on
abbrev pub SaysPart : Result Sound WavFault → ℕ → ℕ → List ℤ → Type 0
SaysPart (Err why) c from samples = ⊥
SaysPart (Ok sound) c from samples = samples ≡ take (length samples) (drop from (slice_index_or sound.channels c []))

abbrev pub SaysChannel : Option (List ℕ) → ℕ → ℕ → List ℤ → Type 0
SaysChannel None c from samples = ⊥
SaysChannel (Some bytes) c from samples = SaysPart (wav_of bytes) c from samples
