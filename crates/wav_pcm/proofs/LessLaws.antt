-- What says of a sound that it is cut short names more bytes than there are.
use Rattle.wav_pcm.proofs.Common.{◌≡◌, ◌<◌, ◌+◌, ◌*◌, ℕ, zero, suc, List, [], ◌∷◌, length, take, drop, true, false}
use Rattle.wav_pcm.proofs.Common.{Bool, Option, Some, None, Result, Ok, Err, inl, inr, subst, cases_lt, lt-ltb, le-ltb}
use Rattle.wav_pcm.proofs.Common.{codes, if◌then◌else◌, bytes_eq, WavFault, BadRate, Truncated, Format, Sound}
use Rattle.wav_pcm.proofs.Common.{chunks_from, data_of, ended, format_of, padded, seen_after, some_format, sound_of}
use Rattle.wav_pcm.proofs.Common.{u16_at, u32_at, wav_of}
use Rattle.std.specs.{Prelude.nat_lt, Prelude.◌==◌, Prelude.not}
use Rattle.pcm_base.specs.declared.wav.WavFault.TheVariants.{BadAlign, BadBits, BadChannels, BadTag, FmtShort, NotRiff}
use Rattle.pcm_base.specs.Wave.{and_then, chunk_then, fields_of, is_channels, is_pcm, is_riff, is_short}

abbrev HasLess : WavFault → Type 0
HasLess (Truncated want have) = have < want
HasLess fault = Unit {0}

abbrev SaysLess : {T : Type 0} → Result T WavFault → Type 0
SaysLess (Ok x) = Unit {0}
SaysLess (Err fault) = HasLess fault

by_if : {T : Type 0} (b : Bool) (x y : Result T WavFault) → SaysLess x → SaysLess y
    → SaysLess (if b then x else y)
by_if true x y first second = first
by_if false x y first second = second

by_then : {A B : Type 0} (r : Result A WavFault) (f : A → Result B WavFault) → SaysLess r
    → ((a : A) → SaysLess (f a)) → SaysLess (and_then r f)
by_then (Ok a) f says more = more a
by_then (Err fault) f says more = says

-- ---- the format

fields_by : (b c d e : Bool) (bits count align rate : ℕ) (format : Format)
    → SaysLess (
    if b then Err (BadBits bits) else if c then Err (BadChannels count) else if d then Err (BadAlign align)
    else if e then Err (BadRate rate)
    else Ok format)
fields_by true c d e bits count align rate format = tt
fields_by false true d e bits count align rate format = tt
fields_by false false true e bits count align rate format = tt
fields_by false false false true bits count align rate format = tt
fields_by false false false false bits count align rate format = tt

fields_less : (body : List ℕ) → SaysLess (fields_of body)
fields_less body =
    fields_by (not (u16_at body 14 == 16)) (not (is_channels (u16_at body 2)))
    (not (u16_at body 12 == 2 * u16_at body 2)) (u32_at body 4 == 0)
    (u16_at body 14) (u16_at body 2) (u16_at body 12) (u32_at body 4)
    (record { channels = u16_at body 2; rate = u32_at body 4 })

format_by : (b c : Bool) (tag : ℕ) (r : Result Format WavFault) → SaysLess r
    → SaysLess (if b then Err FmtShort else if c then Err (BadTag tag) else r)
format_by true c tag r says = tt
format_by false true tag r says = tt
format_by false false tag r says = says

format_less : (body : List ℕ) → SaysLess (format_of body)
format_less body = format_by (is_short body) (not (is_pcm body)) (u16_at body 0) (fields_of body) (fields_less body)

some_less : (r : Result Format WavFault) → SaysLess r → SaysLess (some_format r)
some_less (Ok format) says = says
some_less (Err fault) says = says

seen_by : (b : Bool) (r : Result (Option Format) WavFault) → SaysLess r → SaysLess (if b then r else Ok None)
seen_by true r says = says
seen_by false r says = tt

seen_less : (f : Option Format) (name : List ℕ) (size : ℕ) (rest : List ℕ) → SaysLess (seen_after f name size rest)
seen_less (Some format) name size rest = tt
seen_less None name size rest =
    seen_by (bytes_eq name (codes "fmt ")) (some_format (format_of (take size rest)))
    (some_less (format_of (take size rest)) (format_less (take size rest)))

-- ---- the chunks

ended_less : (f : Option Format) → SaysLess (ended f)
ended_less None = tt
ended_less (Some format) = tt

long_less : (format : Format) (size : ℕ) (rest : List ℕ)
    → SaysLess (
    if nat_lt (length rest) size then Err (Truncated size (length rest)) else Ok (sound_of format (take size rest)))
long_less format size rest = elim (cases_lt (length rest) size) [
  | inl less ↦ rw (lt-ltb (length rest) size less) less
  | inr long ↦ rw (le-ltb (length rest) size long) tt
]

data_less : (f : Option Format) (size : ℕ) (rest : List ℕ) → SaysLess (data_of f size rest)
data_less None size rest = tt
data_less (Some format) size rest =
    by_if (size == 0xFFFFFFFF) (Ok (sound_of format rest))
    (if nat_lt (length rest) size then Err (Truncated size (length rest)) else Ok (sound_of format (take size rest)))
    tt (long_less format size rest)

chunk_less : (f : Option Format) (bytes : List ℕ) (more : Option Format → Result Sound WavFault)
    → ((seen : Option Format) → SaysLess (more seen)) → SaysLess (chunk_then f bytes more)
chunk_less f bytes more says =
    let size : ℕ = u32_at bytes 4 in
    let body : List ℕ = drop 8 bytes in
    let seen : Result (Option Format) WavFault = seen_after f (take 4 bytes) size body in
    by_if (nat_lt (length bytes) 8) (ended f)
    (if bytes_eq (take 4 bytes) (codes "data") then data_of f size body else and_then seen more) (ended_less f)
    (by_if (bytes_eq (take 4 bytes) (codes "data")) (data_of f size body) (and_then seen more) (data_less f size body)
    (by_then seen more (seen_less f (take 4 bytes) size body) says))

chunks_less : (f : Option Format) (skip : ℕ) (bytes : List ℕ) → SaysLess (chunks_from f skip bytes)
chunks_less f skip [] = ended_less f
chunks_less f (suc skip) (b ∷ bytes) = chunks_less f skip bytes
chunks_less f zero (b ∷ bytes) =
    chunk_less f (b ∷ bytes) (λ seen. chunks_from seen (7 + padded (u32_at (b ∷ bytes) 4)) bytes)
    (λ seen. chunks_less seen (7 + padded (u32_at (b ∷ bytes) 4)) bytes)

wav_less : (bytes : List ℕ) → SaysLess (wav_of bytes)
wav_less bytes =
    by_if (is_riff bytes) (chunks_from None 0 (drop 12 bytes)) (Err NotRiff) (chunks_less None 0 (drop 12 bytes)) tt

-- what refuses the bytes of a file
pub fault_less : (bytes : List ℕ) (want have : ℕ) → wav_of bytes ≡ Err (Truncated want have) → have < want
fault_less bytes want have is = subst (λ (r : Result Sound WavFault). SaysLess r) is (wav_less bytes)
