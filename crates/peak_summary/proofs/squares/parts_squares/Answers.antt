-- The squares of 32 samples more are added, and no lane overflows.
use Rattle.std.proofs.Common.{◌≡◌, ◌≤◌, ◌^◌, ◌*◌, ◌+◌, ◌-◌, ℕ, List, arith, take, drop, ap, ◌∙◌}
use Rattle.std.proofs.{lemmas.Simd.Each1-weaker}
use Rattle.std.specs.Prelude.{sum_by}
use Rattle.peak_summary.specs.{Peaks.square, Lanes.AreAtMost}
use Rattle.peak_summary.proofs.SumLaws.{sum_take}
use Rattle.peak_summary.proofs.squares.parts_squares.Goals as goal

at_most_same : (m n : ℕ) (xs : List ℕ) → m ≤ n → AreAtMost m xs → AreAtMost n xs
at_most_same m n xs le at_most =
    Each1-weaker (λ x. x ≤ m) (λ x. x ≤ n) (λ x here. omega (arith, here, le)) xs at_most

pub loop-i-preserved : goal.loop-i-preserved
loop-i-preserved c =
    let inv = c.loop-i.invariant in
    let few : 32 * c.loop-i.i + 32 - 32 * c.loop-i.i ≡ 32 = omega arith in
    let new = ap (λ (n : ℕ). sum_by square (take n (drop (32 * c.loop-i.i) c.args.samples.now))) few in
    let all = sum_take c.args.samples.now (32 * c.loop-i.i) 32 (32 * (c.loop-i.i + 1)) (omega arith) in
    let grown = c.add_more.ensures.sum in
    let bound = c.add_more.ensures.bound (c.loop-i.i * 2 ^ 18) inv.low inv.high in
    let before = inv.value in
    record {
      value = omega (arith, before, grown, all, new);
      low = at_most_same (c.loop-i.i * 2 ^ 18 + 2 ^ 18) ((c.loop-i.i + 1) * 2 ^ 18) _ (omega arith) bound.0;
      high = at_most_same (c.loop-i.i * 2 ^ 18 + 2 ^ 18) ((c.loop-i.i + 1) * 2 ^ 18) _ (omega arith) bound.1;
      four = c.add_more.ensures.four;
    }

pub both_halves-requires-clause-low : goal.both_halves-requires-clause-low
both_halves-requires-clause-low c =
    at_most_same (c.loop-i.i * 2 ^ 18) (2 ^ 22) _ (omega (arith, c.requires.few)) c.loop-i.invariant.low

pub both_halves-requires-clause-high : goal.both_halves-requires-clause-high
both_halves-requires-clause-high c =
    at_most_same (c.loop-i.i * 2 ^ 18) (2 ^ 22) _ (omega (arith, c.requires.few)) c.loop-i.invariant.high

pub add_more-requires-clause-bound : goal.add_more-requires-clause-bound
add_more-requires-clause-bound c = (
  at_most_same (c.loop-i.i * 2 ^ 18) (2 ^ 29) _ (omega (arith, c.requires.few)) c.loop-i.invariant.low,
  at_most_same (c.loop-i.i * 2 ^ 18) (2 ^ 29) _ (omega (arith, c.requires.few)) c.loop-i.invariant.high,
)

pub returns : goal.returns
returns c =
    c.both_halves.ensures ∙ c.loop-i.invariant.value
    ∙ ap (λ (n : ℕ). sum_by square (take (32 * n) c.args.samples.now)) (omega arith)
