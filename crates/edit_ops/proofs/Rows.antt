-- Worked examples of the counts, computed.
use Rattle.edit_ops.proofs.Common.{◌≡◌, refl, List, [], ◌∷◌, pos, Cell, part, sample_count, clip_count}
use Rattle.pcm_base.specs.{declared.sound.Cell.TheVariants.Gap, declared.sound.Cell.TheVariants.Sample}

abbrev two_clips : List Cell
two_clips = Gap ∷ Sample (pos 1) ∷ Sample (pos 2) ∷ Sample (pos 0) ∷ Gap ∷ Gap ∷ Sample (pos 3) ∷ []

all_samples_counted : sample_count two_clips ≡ 4
all_samples_counted = refl

both_clips_counted : clip_count two_clips ≡ 2
both_clips_counted = refl

-- a range that begins within a clip meets it
cut_clip_counted : clip_count (part 2 5 two_clips) ≡ 1
cut_clip_counted = refl

-- and one between clips meets none
gaps_counted : clip_count (part 4 6 two_clips) ≡ 0
gaps_counted = refl
