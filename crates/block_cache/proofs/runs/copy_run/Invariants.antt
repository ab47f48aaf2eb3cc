-- The first i places hold their frames.
use Rattle.block_cache.proofs.Common.{◌≡◌, take}
use Rattle.std.specs.{Prelude.map, List.range_with_len}
use Rattle.block_cache.specs.Pages.{run_frame}
use Rattle.block_cache.proofs.runs.copy_run.Given as goal

abbrev pub invariant-loop-i : goal.invariant-loop-i
invariant-loop-i l = take l.i l.out
    ≡ map (run_frame l.bytes l.run.level l.run.block.len l.run.from) (range_with_len l.skip l.i)
