-- What a head needs of the bytes of a sound: the front of a `fmt ` chunk, and whole frames.
use Rattle.wav_pcm.proofs.Common.{◌≡◌, ◌≤◌, ◌<◌, ℕ, ◌+◌, ◌*◌, ◌/◌, ◌%◌, List, [], ◌++◌, length, take, drop, map, min}
use Rattle.wav_pcm.proofs.Common.{Ok, Some, ◌≢◌, refl, sym, ap, ◌∙◌, arith, inl, inr, le-ltb, cases_lt, ne_eqb}
use Rattle.wav_pcm.proofs.Common.{get_or-take, take_all, length-take-le, length-drop, take-take, drop-take, fill_by_all}
use Rattle.wav_pcm.proofs.Common.{get_or-map-range_with_len, length-map-range_with_len, div-add-mod', mod_below}
use Rattle.wav_pcm.proofs.Common.{mul_comm, slice_index, range_with_len, Format, Sound, format_of, u32_at, i16_at}
use Rattle.wav_pcm.proofs.Common.{channel_of, sound_of, data_of}
use Rattle.std.proofs.Common.{append-nil}
use Rattle.std.proofs.lemmas.List.{take_min}
use Rattle.std.proofs.{Math.Nat.div-eq_of_lt}
use Rattle.std.specs.{Prelude.ℤ}
use Rattle.wav_pcm.proofs.BufferLaws.{channel_parts}

byte_in_front : (n : ℕ) (xs : List ℕ) (k : ℕ) → k < n → slice_index (take n xs) k ≡ slice_index xs k
byte_in_front n xs k lt = get_or-take n xs k 0 lt

pub number_in_front : (xs : List ℕ) → u32_at (take 8 xs) 4 ≡ u32_at xs 4
number_in_front xs =
    rw (
      byte_in_front 8 xs 4 (omega arith),
      byte_in_front 8 xs 5 (omega arith),
      byte_in_front 8 xs 6 (omega arith),
      byte_in_front 8 xs 7 (omega arith),
    ) refl

format_long : (xs : List ℕ) → 40 ≤ length xs → format_of (take 40 xs) ≡ format_of xs
format_long xs le =
    rw (
      length-take-le 40 xs le,
      le-ltb (length xs) 16 (omega (arith, le)),
      le-ltb (length xs) 40 le,
      byte_in_front 40 xs 0 (omega arith),
      byte_in_front 40 xs 1 (omega arith),
      byte_in_front 40 xs 2 (omega arith),
      byte_in_front 40 xs 3 (omega arith),
      byte_in_front 40 xs 4 (omega arith),
      byte_in_front 40 xs 5 (omega arith),
      byte_in_front 40 xs 6 (omega arith),
      byte_in_front 40 xs 7 (omega arith),
      byte_in_front 40 xs 12 (omega arith),
      byte_in_front 40 xs 13 (omega arith),
      byte_in_front 40 xs 14 (omega arith),
      byte_in_front 40 xs 15 (omega arith),
      drop-take 24 16 xs,
      take_all 16 (take 16 (drop 24 xs)) (omega (
        arith,
        length-take-le 16 (drop 24 xs) (omega (arith, le, length-drop 24 xs)),
      )),
    ) refl

-- 40 bytes of a body say its format
format_front : (xs : List ℕ) → format_of (take 40 xs) ≡ format_of xs
format_front xs = elim (cases_lt (length xs) 40) [
  | inl less ↦ ap format_of (take_all 40 xs (omega (arith, less)))
  | inr long ↦ format_long xs long
]

-- as many of them as there are
pub format_part : (left size count : ℕ) (xs : List ℕ) → length xs ≡ left → count ≡ min (min left size) 40
    → format_of (take count xs) ≡ format_of (take size xs)
format_part left size count xs len is = elim (cases_lt size 40) [
  | inl less ↦
      let same : count ≡ min size (length xs) = omega (arith, len, is, less) in
      ap (λ (n : ℕ). format_of (take n xs)) same ∙ ap format_of (take_min size xs)
  | inr long ↦
      let same : count ≡ min 40 (length xs) = omega (arith, len, is, long) in
      ap (λ (n : ℕ). format_of (take n xs)) same
      ∙ ap format_of (take_min 40 xs ∙ sym (take-take 40 size xs long))
      ∙ format_front (take size xs)
]

-- ---- whole frames

nothing_left : (n : ℕ) (xs : List ℕ) (c : ℕ) → 0 < n → length xs < 2 * n → channel_of n xs c ≡ []
nothing_left n xs c some less =
    let none : length xs / (2 * n) ≡ 0 = div-eq_of_lt less in
    ap (λ (k : ℕ). map (λ k. i16_at xs (2 * (n * k + c))) (range_with_len 0 k)) none

whole_channel : (n c : ℕ) (xs : List ℕ) → c < n
    → channel_of n (take (2 * n * (length xs / (2 * n))) xs) c ≡ channel_of n xs c
whole_channel n c xs within =
    let w : ℕ = 2 * n in
    let m : ℕ = length xs / w in
    let parts : m * w + length xs % w ≡ length xs = div-add-mod' (length xs) w in
    let small : length xs % w < w = mod_below (length xs) w (omega (arith, within)) in
    let size : 2 * n * m ≡ m * w = omega arith in
    let rest = length-drop (2 * n * m) xs in
    let none : channel_of n (drop (2 * n * m) xs) c ≡ [] =
    nothing_left n (drop (2 * n * m) xs) c (omega (arith, within)) (omega (arith, rest, parts, small, size)) in
    sym (append-nil (channel_of n (take (2 * n * m) xs) c))
    ∙ ap (λ (ys : List ℤ). channel_of n (take (2 * n * m) xs) c ++ ys) (sym none)
    ∙ channel_parts n c m (2 * n * m) xs within size (omega (arith, parts, size))

-- an incomplete last frame says nothing
whole_frames : (f : Format) (xs : List ℕ)
    → sound_of f (take (2 * f.channels * (length xs / (2 * f.channels))) xs) ≡ sound_of f xs
whole_frames f xs =
    let n : ℕ = f.channels in
    let front : List ℕ = take (2 * n * (length xs / (2 * n))) xs in
    let same : map (channel_of n front) (range_with_len 0 n) ≡ map (channel_of n xs) (range_with_len 0 n) =
    fill_by_all (channel_of n xs) (map (channel_of n front) (range_with_len 0 n)) n []
    (length-map-range_with_len (channel_of n front) 0 n)
    (λ c lt. get_or-map-range_with_len (channel_of n front) 0 n c c [] lt (omega arith) ∙ whole_channel n c xs lt) in
    ap (λ (cs : List (List ℤ)). record { rate = f.rate; channels = cs }) same

frames_within : (n count : ℕ) → 2 * n * (count / (2 * n)) ≤ count
frames_within n count =
    let parts : count / (2 * n) * (2 * n) + count % (2 * n) ≡ count = div-add-mod' count (2 * n) in
    let same : 2 * n * (count / (2 * n)) ≡ count / (2 * n) * (2 * n) = mul_comm (2 * n) (count / (2 * n)) in
    omega (arith, parts, same)

-- the whole frames of a `data` chunk, of which a number of bytes is looked at
pub data_found_all : (f : Format) (size count : ℕ) (rest : List ℕ) → size ≡ 0xFFFFFFFF → count ≡ length rest
    → data_of (Some f) size rest ≡ Ok (sound_of f (take (2 * f.channels * (count / (2 * f.channels))) rest))
data_found_all f size count rest all is =
    rw (all, is) (ap (λ (s : Sound). Ok s) (sym (whole_frames f rest)))

pub data_found_sized : (f : Format) (size count : ℕ) (rest : List ℕ) → size ≢ 0xFFFFFFFF → count ≡ size
    → size ≤ length rest
    → data_of (Some f) size rest ≡ Ok (sound_of f (take (2 * f.channels * (count / (2 * f.channels))) rest))
data_found_sized f size count rest sized is le =
    let n : ℕ = f.channels in
    let front : List ℕ = take size rest in
    let long : length front ≡ count = length-take-le size rest le ∙ sym is in
    let whole : sound_of f (take (2 * n * (count / (2 * n))) front) ≡ sound_of f front =
    ap (λ (m : ℕ). sound_of f (take (2 * n * (m / (2 * n))) front)) (sym long) ∙ whole_frames f front in
    let within = frames_within n count in
    let same : take (2 * n * (count / (2 * n))) front ≡ take (2 * n * (count / (2 * n))) rest =
    take-take (2 * n * (count / (2 * n))) size rest (omega (arith, within, is)) in
    rw (ne_eqb size 4294967295 sized, le-ltb (length rest) size le)
    (ap (λ (s : Sound). Ok s) (sym whole ∙ ap (sound_of f) same))

pub frames_inside : (n count left : ℕ) → count ≤ left → 2 * n * (count / (2 * n)) ≤ left
frames_inside n count left le =
    let within = frames_within n count in
    omega (arith, within, le)
