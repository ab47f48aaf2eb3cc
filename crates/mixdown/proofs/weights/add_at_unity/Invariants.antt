-- The first k samples are added, and the other sums are as they were.
use Rattle.mixdown.proofs.Common.{◌≡◌, ◌≤◌, ◌<◌, ◌+◌, ◌^◌, ℕ, ◌+ℤ◌, nat_abs, sum_in, weight_in}
use Rattle.mixdown.proofs.weights.add_at_unity.Given as goal

abbrev pub invariant-loop-k : goal.invariant-loop-k
invariant-loop-k l = record {
  added : (j : ℕ) → j < l.k → sum_in l.sums j ≡ sum_in l.fn.sums j +ℤ weight_in 65536 l.samples j;
  grown : (j : ℕ) → j < l.k → nat_abs (sum_in l.sums j) ≤ nat_abs (sum_in l.fn.sums j) + 2 ^ 19;
  kept : (j : ℕ) → l.k ≤ j → sum_in l.sums j ≡ sum_in l.fn.sums j;
}
