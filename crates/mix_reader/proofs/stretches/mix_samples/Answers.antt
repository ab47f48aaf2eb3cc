-- The stretches are those of what the tracks that are heard mean.
use Rattle.mix_reader.proofs.Common.{sym, ap, ◌∙◌, meant, gains_of, sides_of, heard_tracks}
use Rattle.mix_reader.proofs.TrackLaws.{gains_meant, sides_meant, unmuted_meant}
use Rattle.mix_reader.proofs.stretches.mix_samples.Goals as goal

pub returns : goal.returns
returns c = λ src from are.
    let ts = c.args.mix.now.point.now in
    let h = c.requires.heard in
    c.mix_into.ensures.heard from (meant src ts)
    (h.gains ∙ sym (ap gains_of (unmuted_meant src ts) ∙ gains_meant src (heard_tracks ts)))
    (h.sides ∙ sym (ap sides_of (unmuted_meant src ts) ∙ sides_meant src (heard_tracks ts))) are
