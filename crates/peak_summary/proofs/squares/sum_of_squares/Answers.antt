-- The whole chunks, and what comes after them.
use Rattle.std.proofs.Common.{◌≡◌, ◌*◌, ◌+◌, ◌-◌, ◌/◌, ℕ, arith, length, take, ap, ◌∙◌}
use Rattle.std.proofs.lemmas.List.{take_all}
use Rattle.std.specs.Prelude.{sum_by}
use Rattle.peak_summary.specs.Peaks.{square}
use Rattle.peak_summary.proofs.SumLaws.{part_fits, sum_take, sum_fits_take}
use Rattle.peak_summary.proofs.squares.sum_of_squares.Goals as goal

both : (c : goal.After-few_squares)
    → c.chunks_squares.result + c.few_squares.result
    ≡ sum_by square (take (length c.args.samples.now) c.args.samples.now)
both c =
    let at : ℕ = 256 * (length c.args.samples.now / 256) in
    let front = c.chunks_squares.ensures.value in
    let rest = c.few_squares.ensures in
    let all = sum_take c.args.samples.now at (length c.args.samples.now - at) (length c.args.samples.now)
    (omega arith) in
    omega (arith, front, rest, all)

pub few_squares-requires-clause-fit : goal.few_squares-requires-clause-fit
few_squares-requires-clause-fit c =
    let at : ℕ = 256 * (length c.args.samples.now / 256) in
    part_fits at (length c.args.samples.now - at) c.args.samples.now c.all_fit.ensures

pub overflow_add-result : goal.overflow_add-result
overflow_add-result c =
    let sum = both c in
    let bound = sum_fits_take c.args.samples.now (length c.args.samples.now) c.all_fit.ensures c.requires in
    record { fits = omega (arith, sum, bound) }

pub returns : goal.returns
returns c = both c ∙ ap (sum_by square) (take_all (length c.args.samples.now) c.args.samples.now (omega arith))
