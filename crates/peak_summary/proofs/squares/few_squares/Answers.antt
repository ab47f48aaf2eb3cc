-- The whole parts, and what comes after them.
use Rattle.std.proofs.Common.{◌≡◌, ◌*◌, ◌+◌, ◌-◌, ◌/◌, ℕ, arith, length, take, ap, ◌∙◌}
use Rattle.std.proofs.lemmas.List.{take_all}
use Rattle.std.specs.Prelude.{sum_by}
use Rattle.peak_summary.specs.Peaks.{square}
use Rattle.peak_summary.proofs.SumLaws.{sum_take, sum_fits_take}
use Rattle.peak_summary.proofs.squares.few_squares.Goals as goal

both : (c : goal.After-last_squares)
    → c.parts_squares.result + c.last_squares.result
    ≡ sum_by square (take (length c.args.samples.now) c.args.samples.now)
both c =
    let at : ℕ = 32 * (length c.args.samples.now / 32) in
    let front = c.parts_squares.ensures in
    let rest = c.last_squares.ensures in
    let all = sum_take c.args.samples.now at (length c.args.samples.now - at) (length c.args.samples.now)
    (omega arith) in
    omega (arith, front, rest, all)

pub overflow_add-result : goal.overflow_add-result
overflow_add-result c =
    let sum = both c in
    let bound = sum_fits_take c.args.samples.now (length c.args.samples.now) c.requires.fit
    (omega (arith, c.requires.few)) in
    record { fits = omega (arith, sum, bound) }

pub returns : goal.returns
returns c = both c ∙ ap (sum_by square) (take_all (length c.args.samples.now) c.args.samples.now (omega arith))
