-- For any samples of 16 bits there is a file that says them, with any of 1 to 8 channels of one length.
use Rattle.std.proofs.Common.{◌≡◌, ◌<◌, ◌≤◌, ◌^◌, ◌/◌, ◌%◌, ℕ, zero, suc, ◌+◌, ◌*◌, ℤ, pos, List, [], ◌∷◌, ◌++◌, length}
use Rattle.std.proofs.Common.{map, subst, get_or, Bool, ◌==◌, Some, None, Ok, Err, FitsSigned, refl, sym, ap, ap₂, ◌∙◌}
use Rattle.std.proofs.Common.{arith}
use Rattle.std.proofs.lemmas.Nat.{div-mul-add, mod-mul-add, mul-add-lt}
use Rattle.std.proofs.{lemmas.Bool.ne_eqb, lemmas.List.same_lists, lemmas.List.FromFn.get_or-map-range_with_len}
use Rattle.std.proofs.{lemmas.List.FromFn.length-map-range_with_len, Math.Nat.mul_comm, Math.Nat.mul-div_cancel_left}
use Rattle.std.specs.Prelude.{if◌then◌else◌, slice_index, codes, take, drop}
use Rattle.std.specs.{List.range_with_len, Int.w16, Int.byte_at, Int.cast_signed, Int.cast_unsigned}
use Rattle.pcm_base.specs.Wave.{Format, channel_of, i16_at, riff_header, seen_after, some_format, u32_bytes, u32_at}
use Rattle.pcm_base.specs.Wave.{wav_of}
use Rattle.pcm_base.specs.{Pieces.stretch, declared.wav.WavFault.TheVariants.BadRate}
use Rattle.pcm_base.proofs.Pieces.{length-stretch}
use Rattle.wav_pcm.proofs.ChunkLaws.{data_found, goes_on}
use Rattle.wav_pcm.proofs.WrittenLaws.{four_back, riff_read, sample_back}

-- ---- the samples as bytes

abbrev bytes_of_samples : List ℤ → List ℕ
bytes_of_samples [] = []
bytes_of_samples (s ∷ ss) = byte_at 0 (cast_unsigned w16 s) ∷ byte_at 1 (cast_unsigned w16 s) ∷ bytes_of_samples ss

long_bytes : (ss : List ℤ) → length (bytes_of_samples ss) ≡ 2 * length ss
long_bytes [] = refl
long_bytes (s ∷ ss) = omega (arith, long_bytes ss)

sample_there : (ss : List ℤ) (j at : ℕ) → at ≡ 2 * j → j < length ss
    → ((i : ℕ) → i < length ss → FitsSigned w16 (get_or ss i (pos 0)))
    → i16_at (bytes_of_samples ss) at ≡ get_or ss j (pos 0)
sample_there [] j at is lt fit = absurd (omega (arith, lt))
sample_there (s ∷ ss) zero at is lt fit =
    let here : at ≡ 0 = omega (arith, is) in
    ap (i16_at (bytes_of_samples (s ∷ ss))) here ∙ sample_back s (fit 0 (omega arith))
sample_there (s ∷ ss) (suc j) at is lt fit =
    let place : at ≡ suc (suc (2 * j)) = omega (arith, is) in
    let next : suc (suc (2 * j)) + 1 ≡ suc (suc (2 * j + 1)) = omega arith in
    let bytes = bytes_of_samples (s ∷ ss) in
    ap (i16_at bytes) place
    ∙ ap (λ (n : ℕ). cast_signed w16 (slice_index (bytes_of_samples ss) (2 * j) + 256 * slice_index bytes n)) next
    ∙ sample_there ss j (2 * j) refl (omega (arith, lt)) (λ i l. fit (suc i) (omega (arith, l)))

-- a sample of all frames by its place
abbrev interleaved_at : (ℕ → ℤ) → ℕ → ℕ → ℕ → ℤ
interleaved_at f n frames j = f (j % n * frames + j / n)

abbrev samples_in : (ℕ → ℤ) → ℕ → ℕ → List ℤ
samples_in f n frames = map (interleaved_at f n frames) (range_with_len 0 (n * frames))

one_channel : (f : ℕ → ℤ) (n frames c : ℕ) → c < n → ((i : ℕ) → FitsSigned w16 (f i))
    → channel_of n (bytes_of_samples (samples_in f n frames)) c ≡ stretch f (c * frames) frames
one_channel f n frames c within fit =
    let ss = samples_in f n frames in
    let bytes = bytes_of_samples ss in
    let many : length ss ≡ n * frames = length-map-range_with_len (interleaved_at f n frames) 0 (n * frames) in
    let size : length bytes ≡ 2 * n * frames = omega (arith, long_bytes ss, many) in
    let some : 0 < 2 * n = omega (arith, within) in
    let all : length bytes / (2 * n) ≡ frames =
    ap (λ (m : ℕ). m / (2 * n)) size ∙ mul-div_cancel_left frames some in
    let long : length (channel_of n bytes c) ≡ length bytes / (2 * n) =
    length-map-range_with_len (λ k. i16_at bytes (2 * (n * k + c))) 0 (length bytes / (2 * n)) in
    let wide = length-stretch f (c * frames) frames in
    same_lists (channel_of n bytes c) (stretch f (c * frames) frames) (omega (arith, long, all, wide)) (λ k d lt.
    let below : k < frames = omega (arith, lt, long, all) in
    let place : n * k + c ≡ k * n + c = ap (λ (m : ℕ). m + c) (mul_comm n k) in
    let inside : k * n + c < n * frames = place_in k n c frames below within in
    let channel : (k * n + c) % n ≡ c = mod-mul-add k n c within in
    let frame : (k * n + c) / n ≡ k = div-mul-add k n c within in
    get_or-map-range_with_len (λ k. i16_at bytes (2 * (n * k + c))) 0 (length bytes / (2 * n)) k k d
    (omega (arith, below, all)) (omega arith)
    ∙ ap (λ (m : ℕ). i16_at bytes (2 * m)) place
    ∙ sample_there ss (k * n + c) (2 * (k * n + c)) refl (omega (arith, inside, many)) (λ i l.
    fits_at f n frames i fit (omega (arith, l, many)))
    ∙ get_or-map-range_with_len (interleaved_at f n frames) 0 (n * frames) (k * n + c) (k * n + c) (pos 0) inside
    (omega arith)
    ∙ ap₂ (λ (a b : ℕ). f (a * frames + b)) channel frame
    ∙ sym (stretch_at f (c * frames) frames k d below))
  where
    place_in : (k n c frames : ℕ) → k < frames → c < n → k * n + c < n * frames
    place_in k n c frames below within =
        mul-add-lt k n c frames below within

    fits_at : (f : ℕ → ℤ) (n frames i : ℕ) → ((i : ℕ) → FitsSigned w16 (f i)) → i < n * frames
        → FitsSigned w16 (get_or (samples_in f n frames) i (pos 0))
    fits_at f n frames i fit lt =
        subst_fits (sym (get_or-map-range_with_len (interleaved_at f n frames) 0 (n * frames) i i (pos 0) lt
        (omega arith))) (fit (i % n * frames + i / n))
      where
        subst_fits : {a b : ℤ} → a ≡ b → FitsSigned w16 a → FitsSigned w16 b
        subst_fits e fits = subst (λ (s : ℤ). FitsSigned w16 s) e fits

    stretch_at : (f : ℕ → ℤ) (from n k : ℕ) (d : ℤ) → k < n → get_or (stretch f from n) k d ≡ f (from + k)
    stretch_at f from zero k d lt = absurd (omega (arith, lt))
    stretch_at f from (suc n) zero d lt =
        let e : from ≡ from + 0 = omega arith in ap f e
    stretch_at f from (suc n) (suc k) d lt =
        let e : suc from + k ≡ from + suc k = omega arith in
        stretch_at f (suc from) n k d (omega (arith, lt)) ∙ ap f e

-- ---- the file

abbrev format_for : ℕ → ℕ → Format
format_for n rate = record { channels = n; rate = rate }

-- a `fmt ` chunk of this many channels
abbrev chunk_for : ℕ → ℕ → List ℕ → List ℕ
chunk_for n rate rest =
    codes "fmt " ++ (16 ∷ 0 ∷ 0 ∷ 0 ∷ 1 ∷ 0 ∷ n ∷ 0 ∷ (u32_bytes rate ++ (0 ∷ 0 ∷ 0 ∷ 0 ∷ 2 * n ∷ 0 ∷ 16 ∷ 0 ∷ rest)))

abbrev IsSeen : ℕ → ℕ → List ℕ → Type 0
IsSeen n rate rest = seen_after None (take 4 (chunk_for n rate rest)) (u32_at (chunk_for n rate rest) 4)
    (drop 8 (chunk_for n rate rest)) ≡ Ok (Some (format_for n rate))

rate_passes : (n rate : ℕ) → 0 < rate → rate < 2 ^ 32
    → some_format (if ((byte_at 0 rate + 256 * byte_at 1 rate) + 65536 * (byte_at 2 rate + 256 * byte_at 3 rate)) == 0
    then Err (BadRate ((byte_at 0 rate + 256 * byte_at 1 rate) + 65536 * (byte_at 2 rate + 256 * byte_at 3 rate)))
    else Ok (format_for n ((byte_at 0 rate + 256 * byte_at 1 rate)
    + 65536 * (byte_at 2 rate + 256 * byte_at 3 rate)))) ≡ Ok (Some (format_for n rate))
rate_passes n rate some lt =
    ap (λ (r : ℕ). some_format (if r == 0 then Err (BadRate r) else Ok (format_for n r))) (four_back rate lt)
    ∙ ap (λ (b : Bool). some_format (if b then Err (BadRate rate) else Ok (format_for n rate)))
    (ne_eqb rate 0 (omega (arith, some)))

seen_for : (n rate : ℕ) (rest : List ℕ) → 0 < n → n ≤ 8 → 0 < rate → rate < 2 ^ 32 → IsSeen n rate rest
seen_for zero rate rest one few some lt = absurd (omega (arith, one))
seen_for (suc zero) rate rest one few some lt = rate_passes 1 rate some lt
seen_for (suc (suc zero)) rate rest one few some lt = rate_passes 2 rate some lt
seen_for (suc (suc (suc zero))) rate rest one few some lt = rate_passes 3 rate some lt
seen_for (suc (suc (suc (suc zero)))) rate rest one few some lt = rate_passes 4 rate some lt
seen_for (suc (suc (suc (suc (suc zero))))) rate rest one few some lt = rate_passes 5 rate some lt
seen_for (suc (suc (suc (suc (suc (suc zero)))))) rate rest one few some lt = rate_passes 6 rate some lt
seen_for (suc (suc (suc (suc (suc (suc (suc zero))))))) rate rest one few some lt = rate_passes 7 rate some lt
seen_for (suc (suc (suc (suc (suc (suc (suc (suc zero)))))))) rate rest one few some lt = rate_passes 8 rate some lt
seen_for (suc (suc (suc (suc (suc (suc (suc (suc (suc n))))))))) rate rest one few some lt =
    absurd (omega (arith, few))

-- a `data` chunk of all bytes to the end of the file
abbrev data_for : List ℕ → List ℕ
data_for body = codes "data" ++ (255 ∷ 255 ∷ 255 ∷ 255 ∷ body)

abbrev all_channels : (ℕ → ℤ) → ℕ → ℕ → List (List ℤ)
all_channels f n frames = map (λ c. stretch f (c * frames) frames) (range_with_len 0 n)

same_channels : (f : ℕ → ℤ) (n frames : ℕ) → ((i : ℕ) → FitsSigned w16 (f i))
    → map (channel_of n (bytes_of_samples (samples_in f n frames))) (range_with_len 0 n) ≡ all_channels f n frames
same_channels f n frames fit =
    let g = channel_of n (bytes_of_samples (samples_in f n frames)) in
    let h : ℕ → List ℤ = λ c. stretch f (c * frames) frames in
    let one = length-map-range_with_len g 0 n in
    let two = length-map-range_with_len h 0 n in
    same_lists (map g (range_with_len 0 n)) (map h (range_with_len 0 n)) (omega (arith, one, two)) (λ c d lt.
    let below : c < n = omega (arith, lt, one) in
    get_or-map-range_with_len g 0 n c c d below (omega arith) ∙ one_channel f n frames c below fit
    ∙ sym (get_or-map-range_with_len h 0 n c c d below (omega arith)))

pub some_file : (rate n frames : ℕ) (f : ℕ → ℤ) → 0 < rate → rate < 2 ^ 32 → 0 < n → n ≤ 8
    → ((i : ℕ) → FitsSigned w16 (f i))
    → (bytes : List ℕ) × (wav_of bytes ≡ Ok (record { rate = rate; channels = all_channels f n frames }))
some_file rate n frames f some lt one few fit =
    let body = bytes_of_samples (samples_in f n frames) in
    let rest = data_for body in
    let chunk = chunk_for n rate rest in (
      riff_header 0 ++ chunk,
      riff_read 0 chunk
          ∙ goes_on None (Some (format_for n rate)) chunk (omega arith) refl (seen_for n rate rest one few some lt)
          ∙ data_found (Some (format_for n rate)) rest (omega arith) refl
          ∙ ap (λ (cs : List (List ℤ)). Ok (record { rate = rate; channels = cs })) (same_channels f n frames fit),
    )
