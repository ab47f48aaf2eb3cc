-- The goals of `block_size` that the search leaves open.
use Rattle.std.proofs.Common.{arith}
use Rattle.block_sequence.proofs.Sizes.{count_sizes, size_low, size_high}
use Rattle.block_sequence.proofs.fusing.block_size.Goals as goal

pub nonzero_div-least : goal.nonzero_div-least
nonzero_div-least c = omega (arith, count_sizes c.args.m c.args.run c.requires.some)

pub nonzero_rem-run : goal.nonzero_rem-run
nonzero_rem-run c = omega (arith, count_sizes c.args.m c.args.run c.requires.some)

pub returns-then-k-run : goal.returns-then-k-run
returns-then-k-run c =
    rw c.div_ceil-n.ensures (size_low c.args.m c.args.run c.args.k (rw c.div_ceil-n.ensures at c.if-k-run.true))

pub returns-else-k-run : goal.returns-else-k-run
returns-else-k-run c =
    rw c.div_ceil-n.ensures (size_high c.args.m c.args.run c.args.k (rw c.div_ceil-n.ensures at c.if-k-run.false)
    (omega (arith, count_sizes c.args.m c.args.run c.requires.some)))
