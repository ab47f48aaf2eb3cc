-- What is summed so far and what is left make the whole.
use Rattle.mixdown.proofs.Common.{◌≡◌, ◌≤◌, ◌*◌, ◌^◌, drop, ◌+ℤ◌, nat_abs, laid, left_sum, right_sum}
use Rattle.mixdown.proofs.loud.mix_frame.Given as goal

abbrev pub invariant-loop-t : goal.invariant-loop-t
invariant-loop-t l = record {
  left : l.left +ℤ left_sum (laid l.len (drop (l.t * l.len) l.stretches) (drop l.t l.gains) (drop l.t l.sides)) l.at
      ≡ left_sum (laid l.len l.stretches l.gains l.sides) l.at;
  right : l.right +ℤ right_sum (laid l.len (drop (l.t * l.len) l.stretches) (drop l.t l.gains) (drop l.t l.sides)) l.at
      ≡ right_sum (laid l.len l.stretches l.gains l.sides) l.at;
  left_bound : nat_abs l.left ≤ l.t * 2 ^ 32;
  right_bound : nat_abs l.right ≤ l.t * 2 ^ 32;
}
