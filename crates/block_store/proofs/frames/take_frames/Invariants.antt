-- The first i places hold their frames.
use Rattle.std.proofs.Common.{◌≡◌, ◌+◌, ◌*◌, map, take}
use Rattle.std.specs.List.{range_with_len}
use Rattle.sample_block.specs.Faults.{frame_in}
use Rattle.block_store.specs.Reads.{frame_samples}
use Rattle.block_store.proofs.frames.take_frames.Given as goal

abbrev pub invariant-loop-i : goal.invariant-loop-i
invariant-loop-i l = take l.i l.out ≡ map (λ k. frame_in l.bytes (12 * k) (frame_samples l.level l.len (l.from + k)))
    (range_with_len 0 l.i)
