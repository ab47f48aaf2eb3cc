-- The sum of what the halves of the gain weigh is what the gain weighs.
use Rattle.mixdown.proofs.Common.{◌≡◌, ◌/◌, ◌%◌, ap, pos, arith, to_z, of_z, w32, ints, nat_abs, ◌+ℤ◌, scaled}
use Rattle.mixdown.proofs.HalfLaws.{scaled_small, parts_are, upper_part, lower_part, fits_back, same_back}
use Rattle.mixdown.proofs.weights.weigh_usual.Goals as goal

sum_is : (c : goal.After-from-wide)
    → upper_part (to_z w32 (c.args.gain / 65536)) (to_z w32 (of_z w32 c.from-wide.result))
    +ℤ lower_part (to_z w32 (c.args.gain % 65536)) (to_z w32 (of_z w32 c.from-wide.result))
    ≡ scaled c.args.gain c.args.sample
sum_is c =
    let high : to_z w32 (c.args.gain / 65536) ≡ pos (c.args.gain / 65536) = omega (arith, ints, c.requires) in
    let low : to_z w32 (c.args.gain % 65536) ≡ pos (c.args.gain % 65536) = omega (arith, ints) in
    let wide : to_z w32 (of_z w32 c.from-wide.result) ≡ c.args.sample = omega (arith, ints, c.from-wide.ensures) in
    parts_are c.args.gain c.args.sample _ _ _ high low wide c.requires c.ranges.sample

pub overflow_add-result-2 : goal.overflow_add-result-2
overflow_add-result-2 c =
    fits_back _ _ (sum_is c) (scaled_small c.args.gain c.args.sample c.requires c.ranges.sample)

pub returns-clause-value : goal.returns-clause-value
returns-clause-value c =
    same_back _ _ (sum_is c) (scaled_small c.args.gain c.args.sample c.requires c.ranges.sample)

pub returns-clause-bound : goal.returns-clause-bound
returns-clause-bound c =
    let small = scaled_small c.args.gain c.args.sample c.requires c.ranges.sample in
    omega (arith, ap nat_abs (returns-clause-value c), small)
