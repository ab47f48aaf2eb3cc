-- Eight samples are widened and multiplied, lane by lane.
use Rattle.std.proofs.Common.{◌≡◌, ◌^◌, List, length, take, arith, ap, ◌∙◌, map, subst, sym}
use Rattle.std.proofs.lemmas.List.{take_all}
use Rattle.std.specs.Prelude.{ℤ}
use Rattle.peak_summary.specs.{Peaks.square, Peaks.AreSamples, Lanes.AreAtMost}
use Rattle.peak_summary.proofs.LaneLaws.{samples_widen, samples_multiply, squares_unsigned, squares_are}
use Rattle.peak_summary.proofs.LaneLaws.{squares_at_most}
use Rattle.peak_summary.proofs.squares.eight_squares.Goals as goal

front_fits : (xs : List ℤ) → length xs ≡ 8 → AreSamples xs → AreSamples (take 8 xs)
front_fits xs e fit = subst (λ (ys : List ℤ). AreSamples ys) (sym (take_all 8 xs (omega (arith, e)))) fit

pub overflow_cast-wide : goal.overflow_cast-wide
overflow_cast-wide c = samples_widen _ (front_fits _ c.requires.eight c.requires.fit)

pub overflow_mul-result : goal.overflow_mul-result
overflow_mul-result c = samples_multiply _ (front_fits _ c.requires.eight c.requires.fit)

pub overflow_cast-result : goal.overflow_cast-result
overflow_cast-result c = squares_unsigned _ (front_fits _ c.requires.eight c.requires.fit)

pub returns-clause-value : goal.returns-clause-value
returns-clause-value c =
    squares_are _ (front_fits _ c.requires.eight c.requires.fit)
    ∙ ap (map square) (take_all 8 c.args.samples.now (omega (arith, c.requires.eight)))

pub returns-clause-bound : goal.returns-clause-bound
returns-clause-bound c =
    subst (AreAtMost (2 ^ 30)) (sym (squares_are _ (front_fits _ c.requires.eight c.requires.fit)))
    (squares_at_most _ (front_fits _ c.requires.eight c.requires.fit))
