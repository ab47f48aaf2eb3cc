-- Stretches of a project's tracks are mixed to the project's frames.
use Rattle.mixdown.proofs.Common.{ℕ, List, length, map, ap₂, ◌∙◌, Side, counted_from, frame_at, laid}
use Rattle.mixdown.proofs.StretchLaws.{stretches_frames, unmuted_frames}
use Rattle.mixdown.proofs.mix.mix_into.Goals as goal

pub returns-clause-heard : goal.returns-clause-heard
returns-clause-heard c = λ from p gains sides are.
    let len : ℕ = length c.args.out.now in
    c.mix_part.ensures
    ∙ ap₂ (λ (gs : List ℕ) (ss : List Side). map (frame_at (laid len c.args.stretches.now gs ss)) (counted_from 0 len))
    gains sides
    ∙ unmuted_frames from len p c.args.stretches.now are

pub returns-clause-project : goal.returns-clause-project
returns-clause-project c = λ from p gains sides are.
    let len : ℕ = length c.args.out.now in
    c.mix_part.ensures
    ∙ ap₂ (λ (gs : List ℕ) (ss : List Side). map (frame_at (laid len c.args.stretches.now gs ss)) (counted_from 0 len))
    gains sides
    ∙ stretches_frames from len p c.args.stretches.now are
