-- The samples of a channel are those in the frames of a buffer, and then those in the frames after it.
use Rattle.wav_pcm.proofs.Common.{◌≡◌, ◌≤◌, ◌<◌, ℕ, ◌+◌, ◌-◌, ◌*◌, ◌/◌, ◌%◌, ℤ, List, [], ◌∷◌, ◌++◌, length, take, drop}
use Rattle.wav_pcm.proofs.Common.{map, get_or, Vec, Global, inl, inr, sym, ap, ◌∙◌, arith, div-add-mod', mod_below}
use Rattle.wav_pcm.proofs.Common.{get_or-take, get_or-drop, get_or-map, take_all, length-map, length-take-le}
use Rattle.wav_pcm.proofs.Common.{length-drop, fill_by_all, get_or-map-range_with_len, length-map-range_with_len}
use Rattle.wav_pcm.proofs.Common.{cases_lt, slice_index, All, range_with_len, w16, cast_signed, u16_at, i16_at}
use Rattle.wav_pcm.proofs.Common.{channel_of, HaveGrown}
use Rattle.std.proofs.lemmas.Nat.{div-mul-add, mul-add-lt}
use Rattle.std.proofs.lemmas.List.{get_or_append_left, get_or-append_right, append_assoc, length-append}
use Rattle.std.proofs.{lemmas.List.Elements.All-get_or}

whole_and_more : (w m r : ℕ) → 0 < w → (m * w + r) / w ≡ m + r / w
whole_and_more w m r some =
    let parts : r / w * w + r % w ≡ r = div-add-mod' r w in
    let same : m * w + r ≡ (m + r / w) * w + r % w = omega (arith, parts) in
    ap (λ (k : ℕ). k / w) same ∙ div-mul-add (m + r / w) w (r % w) (mod_below r w some)

-- the values of g at m places and those of h after them are those of f
two_parts : (f g h : ℕ → ℤ) (m q : ℕ) → ((k : ℕ) → k < m → g k ≡ f k) → ((k : ℕ) → k < q → h k ≡ f (m + k))
    → map g (range_with_len 0 m) ++ map h (range_with_len 0 q) ≡ map f (range_with_len 0 (m + q))
two_parts f g h m q first second =
    let xs : List ℤ = map g (range_with_len 0 m) in
    let ys : List ℤ = map h (range_with_len 0 q) in
    let long : length xs ≡ m = length-map-range_with_len g 0 m in
    let more : length ys ≡ q = length-map-range_with_len h 0 q in
    let both = length-append xs ys in
    fill_by_all f (xs ++ ys) (m + q) (f 0) (omega (arith, both, long, more)) (λ k lt. elim (cases_lt k m) [
      | inl less ↦
          get_or_append_left xs ys (f 0) k (omega (arith, long, less))
          ∙ get_or-map-range_with_len g 0 m k k (f 0) less (omega arith) ∙ first k less
      | inr past ↦
          let below : k - m < q = omega (arith, lt, past) in
          let place : m + (k - m) ≡ k = omega (arith, past) in
          get_or-append_right xs ys m k (f 0) long past
          ∙ get_or-map-range_with_len h 0 q (k - m) (k - m) (f 0) below (omega arith) ∙ second (k - m) below
          ∙ ap f place
    ])

sample_in_front : (xs : List ℕ) (size at : ℕ) → at + 1 < size → i16_at (take size xs) at ≡ i16_at xs at
sample_in_front xs size at lt =
    let low : slice_index (take size xs) at ≡ slice_index xs at = get_or-take size xs at 0 (omega arith) in
    let high : slice_index (take size xs) (at + 1) ≡ slice_index xs (at + 1) = get_or-take size xs (at + 1) 0 lt in
    let number : u16_at (take size xs) at ≡ u16_at xs at = omega (arith, low, high) in
    ap (cast_signed w16) number

sample_behind : (xs : List ℕ) (size at place : ℕ) → size + at ≡ place → i16_at (drop size xs) at ≡ i16_at xs place
sample_behind xs size at place is =
    let next : size + (at + 1) ≡ place + 1 = omega (arith, is) in
    let low : slice_index (drop size xs) at ≡ slice_index xs place =
    get_or-drop size xs at 0 ∙ ap (slice_index xs) is in
    let high : slice_index (drop size xs) (at + 1) ≡ slice_index xs (place + 1) =
    get_or-drop size xs (at + 1) 0 ∙ ap (slice_index xs) next in
    let number : u16_at (drop size xs) at ≡ u16_at xs place = omega (arith, low, high) in
    ap (cast_signed w16) number

-- a buffer of m whole frames, and what is after it
pub channel_parts : (n c m size : ℕ) (xs : List ℕ) → c < n → size ≡ m * (2 * n) → size ≤ length xs
    → channel_of n (take size xs) c ++ channel_of n (drop size xs) c ≡ channel_of n xs c
channel_parts n c m size xs within whole le =
    let behind : List ℕ = drop size xs in
    let rest : ℕ = length behind / (2 * n) in
    let front_long = length-take-le size xs le in
    let behind_long = length-drop size xs in
    let front_size : length (take size xs) ≡ m * (2 * n) + 0 = omega (arith, front_long, whole) in
    let all_size : length xs ≡ m * (2 * n) + length behind = omega (arith, behind_long, whole, le) in
    let front_count : length (take size xs) / (2 * n) ≡ m =
    ap (λ (k : ℕ). k / (2 * n)) front_size ∙ div-mul-add m (2 * n) 0 (omega arith) in
    let all_count : length xs / (2 * n) ≡ m + rest =
    ap (λ (k : ℕ). k / (2 * n)) all_size ∙ whole_and_more (2 * n) m (length behind) (omega arith) in
    ap (λ (count : ℕ). map (λ k. i16_at (take size xs) (2 * (n * k + c))) (range_with_len 0 count)
    ++ channel_of n behind c) front_count
    ∙ two_parts (λ k. i16_at xs (2 * (n * k + c))) (λ k. i16_at (take size xs) (2 * (n * k + c)))
    (λ k. i16_at behind (2 * (n * k + c))) m rest
    (λ k lt.
    let inside = mul-add-lt k n c m lt within in
    sample_in_front xs size (2 * (n * k + c)) (omega (arith, inside, whole)))
    (λ k lt. sample_behind xs size (2 * (n * k + c)) (2 * (n * (m + k) + c)) (omega (arith, whole)))
    ∙ ap (λ (count : ℕ). map (λ k. i16_at xs (2 * (n * k + c))) (range_with_len 0 count)) (sym all_count)

-- a list that has grown by a buffer lacks what is after the buffer
pub buffer_more : (n lists m size k c : ℕ) (xs : List ℕ) (was now whole : List ℤ) → c < n → lists ≡ n
    → size ≡ m * (2 * n) → size ≤ length xs → length xs - size ≤ k
    → was ++ channel_of n xs c ≡ whole → now ≡ was ++ channel_of lists (take size xs) c
    → now ++ channel_of n (take k (drop size xs)) c ≡ whole
buffer_more n lists m size k c xs was now whole within same made le all before grown =
    let long = length-drop size xs in
    ap (λ (ys : List ℕ). now ++ channel_of n ys c) (take_all k (drop size xs) (omega (arith, long, all)))
    ∙ ap (λ (ys : List ℤ). ys ++ channel_of n (drop size xs) c)
    (grown ∙ ap (λ (j : ℕ). was ++ channel_of j (take size xs) c) same)
    ∙ append_assoc was (channel_of n (take size xs) c) (channel_of n (drop size xs) c)
    ∙ ap (λ (ys : List ℤ). was ++ ys) (channel_parts n c m size xs within made le)
    ∙ before

-- a list that was empty has grown to its channel
grown_at : (n : ℕ) (body : List ℕ) (was now : List (Vec ℤ Global)) → length was ≡ n → length now ≡ n
    → All (λ list. list.items ≡ []) was → HaveGrown body was now
    → (c : ℕ) → c < n → get_or (map (λ list. list.items) now) c [] ≡ channel_of n body c
grown_at n body was [] many long empty grown = λ c lt. absurd (omega (arith, long, lt))
grown_at n body was (list ∷ lists) many long empty grown = λ c lt.
    let within : c < length was = omega (arith, many, lt) in
    get_or-map (λ list. list.items) (list ∷ lists) c list [] (omega (arith, long, lt))
    ∙ grown.1 c list within
    ∙ ap (λ (xs : List ℤ). xs ++ channel_of (length was) body c)
    (All-get_or (λ list. list.items ≡ []) was c list within empty)
    ∙ ap (λ (count : ℕ). channel_of count body c) many

-- lists that were empty have grown to the channels
pub all_grown : (n : ℕ) (body : List ℕ) (was now : List (Vec ℤ Global)) → length was ≡ n
    → All (λ list. list.items ≡ []) was → HaveGrown body was now
    → map (λ list. list.items) now ≡ map (channel_of n body) (range_with_len 0 n)
all_grown n body was now many empty grown =
    let long : length now ≡ n = grown.0 ∙ many in
    let wide = length-map now (λ list. list.items) in
    fill_by_all (channel_of n body) (map (λ list. list.items) now) n [] (omega (arith, long, wide))
    (grown_at n body was now many long empty grown)
