-- What a command brings, all of it.
use Rattle.std.proofs.Common.{◌≡◌, ℕ, zero, suc, ◌+◌, ℤ, pos, List, ◌∷◌, length, get_or, map, refl, ap, ◌∙◌, arith}
use Rattle.std.specs.Prelude.{◌+ℤ◌, ◌*ℤ◌}
use Rattle.pcm_base.specs.{Arithmetic.clamped, Arithmetic.counted_from, Edits.as_cells, declared.sound.Cell.Cell}
use Rattle.pcm_base.specs.{declared.sound.Cell.TheVariants.Sample, Pieces.stretch}
use Rattle.pcm_base.proofs.Pieces.{stretch_list}
use Rattle.block_writer.specs.Bringing.{brought}
use Rattle.block_writer.specs.declared.given.Given.TheVariants as brings

pub samples_brought : (xs : List ℤ) → stretch (λ i. get_or xs i (pos 0)) 0 (length xs) ≡ xs
samples_brought xs = stretch_list xs (pos 0)

-- a ramp as cells, which are those of the model where it is taken from its front
pub ramp_brought : (start step : ℤ) (count from n : ℕ)
    → as_cells (stretch (brought (brings.Ramp start step count)) from n)
    ≡ map (λ i. Sample (clamped (start +ℤ pos i *ℤ step))) (counted_from from n)
ramp_brought start step count from zero = refl
ramp_brought start step count from (suc n) =
    let e : suc from ≡ from + 1 = omega arith in
    ap (λ (xs : List Cell). Sample (clamped (start +ℤ pos from *ℤ step)) ∷ xs) (ramp_brought start step count
    (suc from) n ∙ ap (λ (k : ℕ). map (λ i. Sample (clamped (start +ℤ pos i *ℤ step))) (counted_from k n)) e)
