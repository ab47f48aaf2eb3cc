-- What is summed so far and what is left make the whole.
use Rattle.mixdown.proofs.Common.{◌≡◌, ◌<◌, ◌+◌, ◌*◌, ◌^◌, ℕ, drop, length, ◌+ℤ◌, laid, left_sum, right_sum, sum_in}
use Rattle.mixdown.specs.{Sums.AreWithin}
use Rattle.mixdown.proofs.mix.mix_piece.Given as goal

abbrev pub invariant-loop-t : goal.invariant-loop-t
invariant-loop-t l = record {
  left : (k : ℕ) → k < length l.out → (sum_in l.sums.both k +ℤ sum_in l.sums.left k) +ℤ left_sum
      (laid l.len (drop (l.t * l.len) l.stretches) (drop l.t l.gains) (drop l.t l.sides)) (l.at + k)
      ≡ left_sum (laid l.len l.stretches l.gains l.sides) (l.at + k);
  right : (k : ℕ) → k < length l.out → (sum_in l.sums.both k +ℤ sum_in l.sums.right k) +ℤ right_sum
      (laid l.len (drop (l.t * l.len) l.stretches) (drop l.t l.gains) (drop l.t l.sides)) (l.at + k)
      ≡ right_sum (laid l.len l.stretches l.gains l.sides) (l.at + k);
  both_bound : AreWithin (l.t * 2 ^ 19) (length l.out) l.sums.both;
  left_bound : AreWithin (l.t * 2 ^ 19) (length l.out) l.sums.left;
  right_bound : AreWithin (l.t * 2 ^ 19) (length l.out) l.sums.right;
}
