-- How long the file of an export is.
use Rattle.editor_views.proofs.Common.{◌≡◌, refl, ◌∙◌, ℕ, ◌+◌, ◌*◌, List, [], ◌∷◌, length, arith, Frame, mix_length}
use Rattle.editor_views.proofs.Common.{Sources, wav_text, length-layout, Track, meant, mix_length_of}
use Rattle.std.proofs.Common.{if◌then◌else◌, max}
use Rattle.record_body.specs.Valid.{AllValidTracks}
use Rattle.mix_reader.proofs.TrackLaws.{longest_first}
use Rattle.pcm_base.proofs.ListFacts.{length_frames}

pub length_text : (frames : List Frame) (rate : ℕ) → length (wav_text frames rate) ≡ 44 + 4 * length frames
length_text frames rate = omega (arith, length_frames frames)

-- how long a mix is, by the layouts of its tracks
pub mix_len_by : (src : Sources) (m next_block next_track : ℕ) (ts : List Track)
    → AllValidTracks m next_block next_track ts → mix_length (meant src ts) ≡ mix_length_of ts
mix_len_by src m next_block next_track [] all = refl
mix_len_by src m next_block next_track (t ∷ ts) all =
    longest_first src t ts ∙ (λ i. max (if t.mute then 0 else (length-layout src t.layout all.0.layout.apart) i)
    (mix_len_by src m next_block next_track ts all.1 i))
