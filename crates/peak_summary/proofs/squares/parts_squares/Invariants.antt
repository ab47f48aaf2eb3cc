-- The halves of the sums of the first 32 * i squares, which stay small.
use Rattle.std.proofs.Common.{◌≡◌, ◌*◌, ◌^◌, take, length}
use Rattle.std.specs.Prelude.{sum_by}
use Rattle.peak_summary.specs.{Peaks.square, Lanes.AreAtMost, Lanes.held_in}
use Rattle.peak_summary.proofs.squares.parts_squares.Given as goal

abbrev pub invariant-loop-i : goal.invariant-loop-i
invariant-loop-i l = record {
  value : held_in (2 ^ 16) l.low l.high ≡ sum_by square (take (32 * l.i) l.samples);
  low : AreAtMost (l.i * 2 ^ 18) l.low;
  high : AreAtMost (l.i * 2 ^ 18) l.high;
  four : (length l.low ≡ 4) × (length l.high ≡ 4);
}
