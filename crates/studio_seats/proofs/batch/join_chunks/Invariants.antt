-- The first chunks stand in the batch, each of them whole.
use Rattle.studio_seats.proofs.Common.{◌≡◌, ◌*◌, ◌-◌, ◌≤◌, length, take, parts_of, samples_of}
use Rattle.studio_seats.proofs.batch.join_chunks.Given as goal

abbrev pub invariant-chunks : goal.invariant-chunks
invariant-chunks l = record {
  wide : length l.batch ≡ 16384;
  low : l.count ≤ l.all;
  parts : parts_of 256 l.count (take (l.count * 256) l.batch) ≡ take l.count (samples_of l.chunks);
}

abbrev pub decreases-chunks : goal.decreases-chunks
decreases-chunks l = l.all - l.count
