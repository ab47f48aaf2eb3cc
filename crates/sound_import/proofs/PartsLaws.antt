-- The channels of a sound are the samples that are brought, one stretch of its frames each.
use Rattle.std.proofs.Common.{◌≡◌, ◌<◌, ◌+◌, ◌*◌, ℕ, ℤ, pos, List, length, map, get_or, drop, sym, ap, ap₂, ◌∙◌, arith}
use Rattle.std.proofs.lemmas.Nat.{div-mul-add, mod-mul-add}
use Rattle.std.proofs.lemmas.List.{length-drop, length-take-le, same_lists}
use Rattle.std.proofs.lemmas.List.FromFn.{get_or-map-range_with_len, length-map-range_with_len}
use Rattle.std.specs.List.{range_with_len}
use Rattle.pcm_base.specs.{Pieces.stretch, Wave.channel_of}
use Rattle.pcm_base.proofs.Pieces.{stretch_list}
use Rattle.wav_pcm.specs.{declared.heads.WavHead.WavHead, Heads.bytes_of, Heads.frames_in, Heads.sound_at}
use Rattle.wav_pcm.proofs.ChannelLaws.{channel_length}
use Rattle.block_writer.proofs.BringLaws.{moved_stretch}
use Rattle.sound_import.specs.Reading.{AreThere, sample_at}

one_channel : (head : WavHead) (bytes : List ℕ) (c : ℕ) → c < head.channels → AreThere head bytes
    → stretch (sample_at head bytes) (c * head.frames) head.frames ≡ channel_of head.channels (frames_in head bytes) c
one_channel head bytes c within there =
    let n : ℕ = head.frames in
    let xs : List ℤ = channel_of head.channels (frames_in head bytes) c in
    let left = length-drop head.at bytes in
    let size : length (frames_in head bytes) ≡ bytes_of head n =
    length-take-le (bytes_of head n) (drop head.at bytes) (omega (arith, left, there)) in
    let long : length xs ≡ n = channel_length head c n (frames_in head bytes) (omega (arith, within)) size in
    let same : (k : ℕ) → k < n → sample_at head bytes (c * n + k) ≡ get_or xs (0 + k) (pos 0) = λ k lt.
    let zero : k ≡ 0 + k = omega arith in
    ap₂ (λ (d i : ℕ). get_or (channel_of head.channels (frames_in head bytes) d) i (pos 0)) (div-mul-add c n k lt)
    (mod-mul-add c n k lt ∙ zero) in
    moved_stretch (sample_at head bytes) (λ i. get_or xs i (pos 0)) (c * n) 0 n same
    ∙ ap (stretch (λ i. get_or xs i (pos 0)) 0) (sym long) ∙ stretch_list xs (pos 0)

-- those of all channels
pub channels_brought : (head : WavHead) (bytes : List ℕ) → AreThere head bytes
    → map (λ c. stretch (sample_at head bytes) (c * head.frames) head.frames) (range_with_len 0 head.channels)
    ≡ (sound_at head bytes).channels
channels_brought head bytes there =
    let n : ℕ = head.channels in
    let g : ℕ → List ℤ = λ c. stretch (sample_at head bytes) (c * head.frames) head.frames in
    let h : ℕ → List ℤ = channel_of n (frames_in head bytes) in
    let one = length-map-range_with_len g 0 n in
    let two = length-map-range_with_len h 0 n in
    same_lists (map g (range_with_len 0 n)) (map h (range_with_len 0 n)) (omega (arith, one, two)) (λ c d lt.
    let below : c < n = omega (arith, lt, one) in
    get_or-map-range_with_len g 0 n c c d below (omega arith) ∙ one_channel head bytes c below there
    ∙ sym (get_or-map-range_with_len h 0 n c c d below (omega arith)))
