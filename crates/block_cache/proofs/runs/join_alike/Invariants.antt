-- The frames so far are joined: their samples are known from how many there are.
use Rattle.block_cache.proofs.Common.{◌≡◌, ◌*◌, ◌-◌}
use Rattle.std.specs.Prelude.{fold, map}
use Rattle.std.specs.List.{range_with_len}
use Rattle.peak_summary.specs.Peaks.{joined}
use Rattle.sample_block.specs.Faults.{frame_in}
use Rattle.block_cache.proofs.RunLaws.{so_far}
use Rattle.block_cache.proofs.runs.join_alike.Given as goal

abbrev pub invariant-loop-i : goal.invariant-loop-i
invariant-loop-i l = so_far l.before l.each l.min l.max l.squares (l.i - l.start) ≡ fold joined l.before
    (map (λ k. frame_in l.bytes (12 * k) l.each) (range_with_len l.start (l.i - l.start)))
