-- What was passed first stays passed.
use Rattle.cell_reader.proofs.Common.{⊎_elim, ◌∙◌, arith}
use Rattle.std.proofs.Common.{inl, inr}
use Rattle.cell_reader.proofs.rest.pass.Goals as goal

pub returns-clause-past : goal.returns-clause-past
returns-clause-past c =
    let end = c.pass_blocks.ensures.end ∙ c.pass_rows.ensures.end in
    let clips = c.pass_blocks.ensures.clips ∙ c.pass_rows.ensures.clips in
    record {
      clip = ⊎_elim (λ none. inl (clips ∙ none)) (λ before. inr (omega (arith, end, before))) c.pass_clips.ensures.past;
      block = c.pass_blocks.ensures.past;
    }
