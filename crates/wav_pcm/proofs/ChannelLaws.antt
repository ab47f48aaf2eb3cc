-- The samples of a channel, a buffer at a time.
use Rattle.wav_pcm.proofs.Common.{◌≡◌, ◌≤◌, ◌<◌, ℕ, ◌+◌, ◌-◌, ◌*◌, ◌/◌, List, [], ◌++◌, length, take, drop, Option}
use Rattle.wav_pcm.proofs.Common.{None, Some, min, Result, sym, ap, ◌∙◌, arith, subst, length-append, length-drop}
use Rattle.wav_pcm.proofs.Common.{length-take, length-take-le, take-take, drop-take, drop-drop}
use Rattle.wav_pcm.proofs.Common.{get_or-map-range_with_len, length-map-range_with_len, mul_comm, mul-div_cancel_left}
use Rattle.wav_pcm.proofs.Common.{take-append_seam, drop-append_seam, slice_index_or, Sounds, Sound, channel_of, i16_at}
use Rattle.wav_pcm.proofs.Common.{wav_of, WavFault, Truncated, sound_bytes, NoFile, Vault, BadWav, TooLong, bytes_of}
use Rattle.wav_pcm.proofs.Common.{Finds, IsChannelOf, WavHead, SoundFault}
use Rattle.std.proofs.Math.Nat.{mul-add}
use Rattle.std.specs.Prelude.{ℤ}
use Rattle.wav_pcm.specs.Parts.{part, IsVaultAlone}
use Rattle.wav_pcm.specs.Heads.{place_of, frames_in, sound_at, IsHeadOf, IsCut, SaysPart, SaysChannel}
use Rattle.wav_pcm.proofs.BufferLaws.{channel_parts}

bytes_more : (head : WavHead) (a b : ℕ) → bytes_of head (a + b) ≡ bytes_of head a + bytes_of head b
bytes_more head a b = mul-add (2 * head.channels) a b

pub bytes_le : (head : WavHead) (a b all : ℕ) → a + b ≤ all → bytes_of head a + bytes_of head b ≤ bytes_of head all
bytes_le head a b all le =
    let more = bytes_more head a b in
    let rest = bytes_more head (a + b) (all - (a + b)) in
    let same : a + b + (all - (a + b)) ≡ all = omega (arith, le) in
    let whole = ap (bytes_of head) same in
    omega (arith, more, rest, whole)

place_more : (head : WavHead) (from done : ℕ)
    → place_of head (from + done) ≡ place_of head from + bytes_of head done
place_more head from done =
    let more = bytes_more head from done in
    omega (arith, more)

part_of_part : (a b n : ℕ) (xs : List ℕ) → drop a (take (a + b) (drop n xs)) ≡ part (n + a) b xs
part_of_part a b n xs = drop-take a b (drop n xs) ∙ ap (take b) (drop-drop a n xs)

-- one buffer after another
pub channel_joined : (head : WavHead) (from c done count : ℕ) (bytes : List ℕ) (xs ys : List ℤ) → c < head.channels
    → length xs ≡ done → length ys ≡ count
    → IsChannelOf head from bytes c xs → IsChannelOf head (from + done) bytes c ys
    → IsChannelOf head from bytes c (xs ++ ys)
channel_joined head from c done count bytes xs ys within long more is next =
    let n : ℕ = head.channels in
    let start : ℕ = place_of head from in
    let size : ℕ = bytes_of head done in
    let P : List ℕ = part start (bytes_of head (done + count)) bytes in
    let all : length (xs ++ ys) ≡ done + count = omega (arith, length-append xs ys, long, more) in
    let both = bytes_more head done count in
    let place = place_more head from done in
    let first : size ≤ length bytes - start = omega (arith, ap (bytes_of head) long, is.0) in
    let second : bytes_of head count ≤ length bytes - place_of head (from + done) =
    omega (arith, ap (bytes_of head) more, next.0) in
    let rest = length-drop start bytes in
    let fits : bytes_of head (done + count) ≤ length bytes - start = omega (arith, both, place, first, second) in
    let wide = length-take-le (bytes_of head (done + count)) (drop start bytes) (omega (arith, rest, fits)) in
    let front : take size P ≡ part start size bytes = take-take size (bytes_of head (done + count)) (drop start bytes)
    (omega (arith, both)) in
    let behind : drop size P ≡ part (place_of head (from + done)) (bytes_of head count) bytes =
    ap (λ (m : ℕ). drop size (take m (drop start bytes))) both ∙ part_of_part size (bytes_of head count) start bytes
    ∙ ap (λ (m : ℕ). part m (bytes_of head count) bytes) (sym place) in
    let joined = channel_parts n c done size P within (mul_comm (2 * n) done) (omega (arith, wide, both)) in (
      omega (arith, ap (bytes_of head) all, fits),
      ap (λ (zs : List ℤ). zs ++ ys) (is.1
          ∙ ap (λ (m : ℕ). channel_of n (part start m bytes) c) (ap (bytes_of head) long)
          ∙ ap (λ (zs : List ℕ). channel_of n zs c) (sym front))
          ∙ ap (λ (zs : List ℤ). channel_of n (take size P) c ++ zs) (next.1
          ∙ ap (λ (m : ℕ). channel_of n (part (place_of head (from + done)) m bytes) c) (ap (bytes_of head) more)
          ∙ ap (λ (zs : List ℕ). channel_of n zs c) (sym behind))
          ∙ joined
          ∙ ap (λ (m : ℕ). channel_of n (part start m bytes) c) (ap (bytes_of head) (sym all)),
    )

-- the buffer that is not whole
cut_found : (head : WavHead) (from done count all have : ℕ) (bytes : List ℕ) (xs : List ℤ) (c : ℕ)
    (why : SoundFault)
    → done + count ≤ all → length xs ≡ done → IsChannelOf head from bytes c xs
    → have ≡ min (bytes_of head count) (length bytes - place_of head (from + done)) → have < bytes_of head count
    → why ≡ BadWav (Truncated (bytes_of head all) (bytes_of head done + have))
    → IsCut head from all bytes why
cut_found head from done count all have bytes xs c why le long is few lt named =
    let place = place_more head from done in
    let first : bytes_of head done ≤ length bytes - place_of head from = omega (arith, ap (bytes_of head) long, is.0) in
    let there : bytes_of head done + have ≡ length bytes - place_of head from = omega (arith, few, lt, place, first) in
    let whole = bytes_le head done count all le in
    subst (IsCut head from all bytes) (sym named)
    (ap (Truncated (bytes_of head all)) there, omega (arith, there, whole, lt))

-- the length of the part that a buffer fills
pub part_size : (done count : ℕ) (xs : List ℤ) → done + count ≤ length xs
    → length (take (done + count - done) (drop done xs)) ≡ count
part_size done count xs le = omega (arith, length-take (done + count - done) (drop done xs), length-drop done xs, le)

-- the same of a vault that holds what it held before
pub cut_here : (head : WavHead) (from done count all have c : ℕ) (old now : Sounds) (name : List ℕ) (out : List ℤ)
    (why : SoundFault)
    → now ≡ old → all ≡ length out → done + count ≤ all → IsChannelOf head from (sound_bytes (old name)) c (take done out)
    → have ≡ min (bytes_of head (length (take (done + count - done) (drop done out))))
    (length (sound_bytes (now name)) - place_of head (from + done))
    → have < bytes_of head count → why ≡ BadWav (Truncated (bytes_of head all) (bytes_of head done + have))
    → IsCut head from all (sound_bytes (old name)) why
cut_here head from done count all have c old now name out why same long le is few lt named =
    let size = part_size done count out (omega (arith, long, le)) in
    let front : length (take done out) ≡ done = length-take-le done out (omega (arith, long, le)) in
    let C : Sounds → Type 0 = λ s. have ≡ min (bytes_of head count) (length (sound_bytes (s name))
    - place_of head (from + done)) in
    let there = few ∙ ap (λ (n : ℕ). min (bytes_of head n) (length (sound_bytes (now name))
    - place_of head (from + done))) size in
    cut_found head from done count all have (sound_bytes (old name)) (take done out) c why le front is
    (subst C same there) lt named

-- ---- what the whole sound says

pub channel_length : (head : WavHead) (c count : ℕ) (xs : List ℕ) → 0 < head.channels → length xs ≡ bytes_of head count
    → length (channel_of head.channels xs c) ≡ count
channel_length head c count xs some long =
    let n : ℕ = head.channels in
    length-map-range_with_len (λ k. i16_at xs (2 * (n * k + c))) 0 (length xs / (2 * n))
    ∙ ap (λ (m : ℕ). m / (2 * n)) long ∙ mul-div_cancel_left count (omega (arith, some))

middle : (xs ys zs : List ℤ) (from count : ℕ) → length xs ≡ from → length ys ≡ count
    → take count (drop from (xs ++ (ys ++ zs))) ≡ ys
middle xs ys zs from count long more =
    ap (λ (n : ℕ). take count (drop n (xs ++ (ys ++ zs)))) (sym long)
    ∙ ap (take count) (drop-append_seam xs (ys ++ zs))
    ∙ ap (λ (n : ℕ). take n (ys ++ zs)) (sym more) ∙ take-append_seam ys zs

add_up : (a b rest : ℕ) → a + b + rest ≡ a + (b + rest)
add_up a b rest = omega arith

-- a channel of some frames among all
pub channel_part : (head : WavHead) (from c count : ℕ) (bytes : List ℕ) → c < head.channels
    → from + count ≤ head.frames → head.at + bytes_of head head.frames ≤ length bytes
    → channel_of head.channels (part (place_of head from) (bytes_of head count) bytes) c
    ≡ take count (drop from (channel_of head.channels (frames_in head bytes) c))
channel_part head from c count bytes within few there =
    let n : ℕ = head.channels in
    let F : List ℕ = frames_in head bytes in
    let a : ℕ = bytes_of head from in
    let b : ℕ = bytes_of head count in
    let rest : ℕ = bytes_of head (head.frames - (from + count)) in
    let G : List ℕ = drop a F in
    let two = bytes_more head from count in
    let three = bytes_more head (from + count) (head.frames - (from + count)) in
    let sum : from + count + (head.frames - (from + count)) ≡ head.frames = omega (arith, few) in
    let all : bytes_of head head.frames ≡ a + b + rest = omega (arith, two, three, ap (bytes_of head) sum) in
    let left = length-drop head.at bytes in
    let long : length F ≡ a + b + rest =
    length-take-le (bytes_of head head.frames) (drop head.at bytes) (omega (arith, left, there)) ∙ all in
    let some : 0 < n = omega (arith, within) in
    let front : length (take a F) ≡ a = length-take-le a F (omega (arith, long)) in
    let behind = length-drop a F in
    let mid : length (take b G) ≡ b = length-take-le b G (omega (arith, behind, long)) in
    let one = channel_parts n c from a F within (mul_comm (2 * n) from) (omega (arith, long)) in
    let next = channel_parts n c count b G within (mul_comm (2 * n) count) (omega (arith, behind, long)) in
    let cut : take b G ≡ part (place_of head from) b bytes =
    ap (λ (m : ℕ). take b (drop a (take m (drop head.at bytes)))) (all ∙ add_up a b rest)
    ∙ ap (take b) (part_of_part a (b + rest) head.at bytes)
    ∙ take-take b (b + rest) (drop (head.at + a) bytes) (omega arith) in
    ap (λ (zs : List ℕ). channel_of n zs c) (sym cut)
    ∙ sym (middle (channel_of n (take a F) c) (channel_of n (take b G) c) (channel_of n (drop b G) c) from count
    (channel_length head c from (take a F) some front) (channel_length head c count (take b G) some mid))
    ∙ ap (λ (zs : List ℤ). take count (drop from (channel_of n (take a F) c ++ zs))) next
    ∙ ap (λ (zs : List ℤ). take count (drop from zs)) one

says_part : (head : WavHead) (from c : ℕ) (bytes : List ℕ) (samples : List ℤ) (told : Result Sound WavFault)
    → c < head.channels → from + length samples ≤ head.frames → Finds head bytes told
    → IsChannelOf head from bytes c samples → SaysPart told c from samples
says_part head from c bytes samples told within few finds is =
    let n : ℕ = head.channels in
    let F : List ℕ = frames_in head bytes in
    let chosen : slice_index_or (sound_at head bytes).channels c [] ≡ channel_of n F c =
    get_or-map-range_with_len (channel_of n F) 0 n c c [] within (omega arith) in
    subst (λ (r : Result Sound WavFault). SaysPart r c from samples) (sym finds.says)
    (is.1 ∙ channel_part head from c (length samples) bytes within few finds.within
    ∙ ap (λ (zs : List ℤ). take (length samples) (drop from zs)) (sym chosen))

pub says_channel : (head : WavHead) (from c : ℕ) (sound : Option (List ℕ)) (samples : List ℤ) → c < head.channels
    → from + length samples ≤ head.frames → IsHeadOf sound head → IsChannelOf head from (sound_bytes sound) c samples
    → SaysChannel sound c from samples
says_channel head from c None samples within few of is = absurd of
says_channel head from c (Some bytes) samples within few of is =
    says_part head from c bytes samples (wav_of bytes) within few of is

-- nothing is lacking
found_whole : (head : WavHead) (from count : ℕ) (bytes : List ℕ) (told : Result Sound WavFault) (why : SoundFault)
    → from + count ≤ head.frames → Finds head bytes told → IsCut head from count bytes why → IsVaultAlone why
found_whole head from count bytes told NoFile few finds is = is
found_whole head from count bytes told Vault few finds is = tt
found_whole head from count bytes told (BadWav fault) few finds is =
    let le = bytes_le head from count head.frames few in
    absurd (omega (arith, le, finds.within, is.1))
found_whole head from count bytes told (TooLong frames) few finds is = is

pub vault_alone : (head : WavHead) (from count : ℕ) (sound : Option (List ℕ)) (why : SoundFault)
    → from + count ≤ head.frames → IsHeadOf sound head → IsCut head from count (sound_bytes sound) why
    → IsVaultAlone why
vault_alone head from count None why few of is = absurd of
vault_alone head from count (Some bytes) why few of is = found_whole head from count bytes (wav_of bytes) why few of is
