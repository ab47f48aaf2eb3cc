-- The first k frames are those of the sums.
use Rattle.mixdown.proofs.Common.{◌≡◌, map, take, range_with_len, frame_in}
use Rattle.mixdown.proofs.sums.Sums.limit.Given as goal

abbrev pub invariant-loop-k : goal.invariant-loop-k
invariant-loop-k l = take l.k l.out ≡ map (frame_in l.self.both l.self.left l.self.right) (range_with_len 0 l.k)
