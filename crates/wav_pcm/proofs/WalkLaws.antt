-- The chunks of a sound, of which a number of bytes is left.
use Rattle.wav_pcm.proofs.Common.{◌≡◌, ◌≤◌, ◌<◌, ℕ, ◌+◌, ◌-◌, List, length, take, drop, true, false, Option, Result, Ok}
use Rattle.wav_pcm.proofs.Common.{Err, sym, ap, ◌∙◌, arith, inl, inr, subst, length-drop, drop-drop, cases_lt, WavFault}
use Rattle.wav_pcm.proofs.Common.{Format, Sound, chunks_from, data_of, ended, seen_after, padded, sound_of, NoFile}
use Rattle.wav_pcm.proofs.Common.{Vault, BadWav, TooLong, Finds, bytes_of, WavHead, Chunk, SoundFault, IsChunk, IsFault}
use Rattle.std.proofs.{Math.ListN.drop_of_length-le}
use Rattle.wav_pcm.specs.Heads.{IsDataFound}
use Rattle.wav_pcm.proofs.ChunkLaws.{data_found, passed, refusal_found, refusal_end}

rest_long : (bytes : List ℕ) (size left : ℕ) → length bytes ≡ size → left ≤ size
    → length (drop (size - left) bytes) ≡ left
rest_long bytes size left long le =
    let rest = length-drop (size - left) bytes in
    omega (arith, rest, long, le)

body_at : (bytes : List ℕ) (size left : ℕ) → length bytes ≡ size → left ≤ size → 8 ≤ left
    → drop (size - (left - 8)) bytes ≡ drop 8 (drop (size - left) bytes)
body_at bytes size left long le eight =
    let place : size - (left - 8) ≡ size - left + 8 = omega (arith, le, eight) in
    ap (λ (n : ℕ). drop n bytes) place ∙ sym (drop-drop 8 (size - left) bytes)

behind_at : (bytes : List ℕ) (size left n : ℕ) → length bytes ≡ size → left ≤ size → 8 ≤ left
    → drop (size - (left - 8 - n)) bytes ≡ drop (8 + n) (drop (size - left) bytes)
behind_at bytes size left n long le eight = elim (cases_lt (left - 8) n) [
  | inl past ↦
      let all : length bytes ≤ size - (left - 8 - n) = omega (arith, long, past) in
      let rest = rest_long bytes size left long le in
      drop_of_length-le bytes all
      ∙ sym (drop_of_length-le (drop (size - left) bytes) (omega (arith, rest, past, eight)))
  | inr within ↦
      let place : size - (left - 8 - n) ≡ size - left + (8 + n) = omega (arith, le, eight, within) in
      ap (λ (k : ℕ). drop k bytes) place ∙ sym (drop-drop (8 + n) (size - left) bytes)
]

-- the `data` chunk
data_sound : (f : Option Format) (chunk : Chunk) (bytes : List ℕ) (size left : ℕ) (told : Result Sound WavFault)
    → length bytes ≡ size → left ≤ size → 8 ≤ left → chunks_from f 0 (drop (size - left) bytes) ≡ told
    → IsChunk chunk (drop (size - left) bytes) → chunk.is_data ≡ true
    → told ≡ data_of f chunk.size (drop (size - (left - 8)) bytes)
data_sound f chunk bytes size left told long le eight whole is found =
    let xs : List ℕ = drop (size - left) bytes in
    let rest = rest_long bytes size left long le in
    sym whole
    ∙ data_found f xs (omega (arith, rest, eight)) (sym is.body ∙ found)
    ∙ ap (λ (n : ℕ). data_of f n (drop 8 xs)) (sym is.size)
    ∙ ap (data_of f chunk.size) (sym (body_at bytes size left long le eight))

pub data_finds : (f : Option Format) (chunk : Chunk) (bytes : List ℕ) (size left : ℕ) (told : Result Sound WavFault)
    (head : WavHead)
    → length bytes ≡ size → left ≤ size → 8 ≤ left → chunks_from f 0 (drop (size - left) bytes) ≡ told
    → IsChunk chunk (drop (size - left) bytes) → chunk.is_data ≡ true
    → IsDataFound (size - (left - 8)) (drop (size - (left - 8)) bytes) (Ok head)
    (data_of f chunk.size (drop (size - (left - 8)) bytes))
    → Finds head bytes told
data_finds f chunk bytes size left told head long le eight whole is found says =
    let at : ℕ = size - (left - 8) in
    let rest = length-drop at bytes in
    record {
      within = omega (arith, rest, long, le, eight, says.0, says.1);
      says = data_sound f chunk bytes size left told long le eight whole is found ∙ says.2
          ∙ ap (λ (n : ℕ). Ok (sound_of (record { channels = head.channels; rate = head.rate })
          (take (bytes_of head head.frames) (drop n bytes)))) (sym says.0);
    }

fault_found : {U : Type 0} (why : SoundFault) (fault : WavFault) (told : Result U WavFault) → why ≡ BadWav fault
    → told ≡ Err fault → IsFault why told
fault_found why fault told is says = subst (λ (w : SoundFault). IsFault w told) (sym is) says

pub data_refuses : (f : Option Format) (chunk : Chunk) (bytes : List ℕ) (size left : ℕ) (told : Result Sound WavFault)
    (why : SoundFault) (fault : WavFault)
    → length bytes ≡ size → left ≤ size → 8 ≤ left → chunks_from f 0 (drop (size - left) bytes) ≡ told
    → IsChunk chunk (drop (size - left) bytes) → chunk.is_data ≡ true → why ≡ BadWav fault
    → data_of f chunk.size (drop (size - (left - 8)) bytes) ≡ Err fault
    → IsFault why told
data_refuses f chunk bytes size left told why fault long le eight whole is found named says =
    fault_found why fault told named (data_sound f chunk bytes size left told long le eight whole is found ∙ says)

-- another chunk, after which this format was seen
pub walks_on : (f next : Option Format) (chunk : Chunk) (bytes : List ℕ) (size left after : ℕ)
    (told : Result Sound WavFault)
    → length bytes ≡ size → left ≤ size → 8 ≤ left → chunks_from f 0 (drop (size - left) bytes) ≡ told
    → IsChunk chunk (drop (size - left) bytes) → chunk.is_data ≡ false
    → seen_after f (take 4 (drop (size - left) bytes)) chunk.size (drop (size - (left - 8)) bytes) ≡ Ok next
    → after ≡ left - 8 - padded chunk.size
    → chunks_from next 0 (drop (size - after) bytes) ≡ told
walks_on f next chunk bytes size left after told long le eight whole is other seen so =
    let xs : List ℕ = drop (size - left) bytes in
    let rest = rest_long bytes size left long le in
    passed f next chunk.size xs (drop (size - (left - 8)) bytes) (drop (size - after) bytes) told whole
    (omega (arith, rest, eight)) (sym is.body ∙ other) is.size (body_at bytes size left long le eight) seen
    (ap (λ (n : ℕ). drop (size - n) bytes) so ∙ behind_at bytes size left (padded chunk.size) long le eight)

-- a `fmt ` chunk that refuses the file, or a fault of the vault
pub chunk_refuses : (f : Option Format) (chunk : Chunk) (bytes : List ℕ) (size left : ℕ) (told : Result Sound WavFault)
    (why : SoundFault)
    → length bytes ≡ size → left ≤ size → 8 ≤ left → chunks_from f 0 (drop (size - left) bytes) ≡ told
    → IsChunk chunk (drop (size - left) bytes) → chunk.is_data ≡ false
    → IsFault why (seen_after f (take 4 (drop (size - left) bytes)) chunk.size (drop (size - (left - 8)) bytes))
    → IsFault why told
chunk_refuses f chunk bytes size left told NoFile long le eight whole is other seen = absurd seen
chunk_refuses f chunk bytes size left told Vault long le eight whole is other seen = tt
chunk_refuses f chunk bytes size left told (BadWav fault) long le eight whole is other seen =
    let rest = rest_long bytes size left long le in
    refusal_found fault f chunk.size (drop (size - left) bytes) (drop (size - (left - 8)) bytes) told whole
    (omega (arith, rest, eight)) (sym is.body ∙ other) is.size (body_at bytes size left long le eight) seen
chunk_refuses f chunk bytes size left told (TooLong count) long le eight whole is other seen = absurd seen

-- no chunk is left
pub end_refuses : (f : Option Format) (bytes : List ℕ) (size left : ℕ) (told : Result Sound WavFault)
    (why : SoundFault) (fault : WavFault)
    → length bytes ≡ size → left ≤ size → left < 8 → chunks_from f 0 (drop (size - left) bytes) ≡ told
    → why ≡ BadWav fault → ended f ≡ Err fault → IsFault why told
end_refuses f bytes size left told why fault long le few whole named is =
    let rest = rest_long bytes size left long le in
    fault_found why fault told named
    (refusal_end fault f (drop (size - left) bytes) told whole (omega (arith, rest, few)) is)
