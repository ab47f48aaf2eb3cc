-- The sum of the first squares, which fits.
use Rattle.std.proofs.Common.{◌≡◌, ◌*◌, ◌^◌, ◌≤◌, take}
use Rattle.std.specs.Prelude.{sum_by}
use Rattle.peak_summary.specs.Peaks.{square}
use Rattle.peak_summary.proofs.squares.last_squares.Given as goal

abbrev pub invariant-loop-s : goal.invariant-loop-s
invariant-loop-s l = record {
  value : l.sum ≡ sum_by square (take l.s-index l.samples);
  bound : l.sum ≤ l.s-index * 2 ^ 30;
}
