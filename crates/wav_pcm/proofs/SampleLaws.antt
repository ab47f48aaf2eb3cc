-- One sample more of those that are taken out of frames, and what 16 bits hold.
use Rattle.wav_pcm.proofs.Common.{◌≡◌, ◌<◌, ◌+◌, ◌*◌, ◌++◌, ◌∷◌, [], map, take, length, arith, sym, ap, ◌∙◌, ℕ, List, ℤ}
use Rattle.wav_pcm.proofs.Common.{to_z-of_z, take_more_set, map-range_with_len_more, range_with_len, w16, slice_index}
use Rattle.wav_pcm.proofs.Common.{channel_of, i16_at, u16_at, FitSamples}
use Rattle.std.proofs.Common.{to_z, of_z, FitsSigned}
use Rattle.std.proofs.{lemmas.List.Elements.All-map, Math.Facts.sfits_to_z}
use Rattle.std.specs.{Prelude.◌/◌}
use lib.ListN.{set}
use mir.Val.{Fits, SFits}
use mir.Syntax.{w8}

-- a sample more of a list that is made from the places of samples
pub sample_more : (body : List ℕ) (place : ℕ → ℕ) (out : List ℤ) (k at : ℕ) (x : ℤ) → k < length out → SFits w16 x
    → x ≡ i16_at body at → at ≡ place k
    → take k out ≡ map (λ j. i16_at body (place j)) (range_with_len 0 k)
    → take (k + 1) (set out k (to_z w16 (of_z w16 x))) ≡ map (λ j. i16_at body (place j)) (range_with_len 0 (k + 1))
sample_more body place out k at x lt fits is here before =
    take_more_set out k _ lt
    ∙ ap (λ (y : ℤ). take k out ++ y ∷ []) (to_z-of_z w16 x fits ∙ is ∙ ap (i16_at body) here)
    ∙ ap (λ (xs : List ℤ). xs ++ i16_at body (place k) ∷ []) before
    ∙ sym (map-range_with_len_more (λ j. i16_at body (place j)) 0 k k (omega arith))

number_few : (body : List ℕ) (at : ℕ) → ((k : ℕ) → Fits w8 (slice_index body k)) → u16_at body at < 65536
number_few body at few = omega (arith, (few at).fits, (few (at + 1)).fits)

-- the samples of bytes fit 16 bits
pub channel_fits : (n : ℕ) (body : List ℕ) (c : ℕ) → ((k : ℕ) → Fits w8 (slice_index body k))
    → FitSamples (channel_of n body c)
channel_fits n body c few =
    All-map (λ s. FitsSigned w16 s) (λ k. i16_at body (2 * (n * k + c))) (range_with_len 0 (length body / (2 * n)))
    (λ j d lt. sfits_to_z (record { fits = number_few body _ few }))
