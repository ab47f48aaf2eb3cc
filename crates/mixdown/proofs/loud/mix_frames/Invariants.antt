-- The first k frames are those of the mix.
use Rattle.mixdown.proofs.Common.{◌≡◌, map, take, range_with_len, frame_at, laid}
use Rattle.mixdown.proofs.loud.mix_frames.Given as goal

abbrev pub invariant-loop-k : goal.invariant-loop-k
invariant-loop-k l = take l.k l.out
    ≡ map (frame_at (laid l.len l.stretches l.gains l.sides)) (range_with_len l.at l.k)
