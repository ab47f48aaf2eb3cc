-- The samples of a stretch of one channel, among those of all channels.
use Rattle.std.proofs.Common.{◌≡◌, ◌≤◌, ◌<◌, ◌+◌, ◌*◌, ◌/◌, ◌%◌, ◌++◌, ℕ, zero, suc, ℤ, pos, List, length, take, drop}
use Rattle.std.proofs.Common.{get_or, sym, ap, ap₂, ◌∙◌, arith}
use Rattle.std.proofs.lemmas.Nat.{div-add-mod', div-mul-add, mod-mul-add, mod_below}
use Rattle.std.proofs.{Math.Nat.lt_of_mul-lt-mul_right, lemmas.List.length-drop, lemmas.List.length-take-le}
use Rattle.pcm_base.specs.{Pieces.stretch, Wave.channel_of}
use Rattle.block_store.proofs.StretchLaws.{stretch_part}
use Rattle.wav_pcm.specs.declared.fault.SoundFault.TheVariants.{NoFile, Vault, BadWav, TooLong}
use Rattle.wav_pcm.specs.Heads.{IsChannelOf, IsCut, bytes_of, frames_in, place_of}
use Rattle.wav_pcm.specs.{declared.heads.WavHead.WavHead, declared.fault.SoundFault.SoundFault, Parts.IsVaultAlone}
use Rattle.wav_pcm.proofs.ChannelLaws.{bytes_le, channel_length, channel_part}
use Rattle.block_writer.proofs.BringLaws.{moved_stretch, stretch_more}
use Rattle.sound_import.specs.Reading.{AreThere, sample_at}

-- a stretch of one channel
channel_stretch : (head : WavHead) (bytes : List ℕ) (place count : ℕ) → place / head.frames < head.channels
    → 0 < head.frames → place % head.frames + count ≤ head.frames → AreThere head bytes
    → channel_of head.channels (take (bytes_of head count) (drop (place_of head (place % head.frames)) bytes))
    (place / head.frames) ≡ stretch (sample_at head bytes) place count
channel_stretch head bytes place count within some few there =
    let n : ℕ = head.frames in
    let c : ℕ = place / n in
    let at : ℕ = place % n in
    let xs : List ℤ = channel_of head.channels (frames_in head bytes) c in
    let whole : c * n + at ≡ place = div-add-mod' place n in
    let left = length-drop head.at bytes in
    let size : length (frames_in head bytes) ≡ bytes_of head n =
    length-take-le (bytes_of head n) (drop head.at bytes) (omega (arith, left, there)) in
    let long : length xs ≡ n = channel_length head c n (frames_in head bytes) (omega (arith, within)) size in
    let same : (k : ℕ) → k < count → get_or xs (at + k) (pos 0) ≡ sample_at head bytes (place + k) = λ k lt.
    let e : place + k ≡ c * n + (at + k) = omega (arith, whole) in
    let channel : (place + k) / n ≡ c = ap (λ (m : ℕ). m / n) e ∙ div-mul-add c n (at + k) (omega (arith, few, lt)) in
    let frame : (place + k) % n ≡ at + k = ap (λ (m : ℕ). m % n) e ∙ mod-mul-add c n (at + k) (omega (arith, few, lt)) in
    sym (ap₂ (λ (d i : ℕ). get_or (channel_of head.channels (frames_in head bytes) d) i (pos 0)) channel frame) in
    channel_part head at c count bytes within few there
    ∙ sym (stretch_part xs at count (omega (arith, long, few)))
    ∙ moved_stretch (λ i. get_or xs i (pos 0)) (sample_at head bytes) at place count same

-- one stretch more was read
pub channel_more : (head : WavHead) (bytes : List ℕ) (from done count : ℕ) (front part : List ℤ)
    → (from + done) / head.frames < head.channels → 0 < head.frames → (from + done) % head.frames + count ≤ head.frames
    → AreThere head bytes → length part ≡ count → front ≡ stretch (sample_at head bytes) from done
    → IsChannelOf head ((from + done) % head.frames) bytes ((from + done) / head.frames) part
    → front ++ part ≡ stretch (sample_at head bytes) from (done + count)
channel_more head bytes from done count front part within some few there long before is =
    let f = sample_at head bytes in
    let one : part ≡ stretch f (from + done) count =
    is.1
    ∙ ap (λ (m : ℕ). channel_of head.channels (take (bytes_of head m)
    (drop (place_of head ((from + done) % head.frames)) bytes)) ((from + done) / head.frames)) long
    ∙ channel_stretch head bytes (from + done) count within some few there in
    ap₂ (λ (xs ys : List ℤ). xs ++ ys) before one ∙ sym (stretch_more f from done count)

-- where all frames are there no byte is lacking
pub never_cut : (head : WavHead) (from count : ℕ) (bytes : List ℕ) (why : SoundFault) → from + count ≤ head.frames
    → AreThere head bytes → IsCut head from count bytes why → IsVaultAlone why
never_cut head from count bytes NoFile few there is = is
never_cut head from count bytes Vault few there is = tt
never_cut head from count bytes (BadWav fault) few there is =
    let le = bytes_le head from count head.frames few in
    absurd (omega (arith, le, there, is.1))
never_cut head from count bytes (TooLong frames) few there is = is

some_frames : (from done all channels frames : ℕ) → from + all ≤ channels * frames → done < all → 0 < frames
some_frames from done all channels zero few lt = absurd (omega (arith, few, lt))
some_frames from done all channels (suc n) few lt = omega arith

-- the place of a channel and of a frame
pub places : (from done all channels frames : ℕ) → from + all ≤ channels * frames → done < all
    → (0 < frames) × ((from + done) / frames < channels) × ((from + done) % frames < frames)
places from done all channels frames few lt =
    let some : 0 < frames = some_frames from done all channels frames few lt in
    let whole = div-add-mod' (from + done) frames in
    let less : (from + done) / frames * frames < channels * frames = omega (arith, whole, few, lt) in
    (some, lt_of_mul-lt-mul_right frames less, mod_below (from + done) frames some)
