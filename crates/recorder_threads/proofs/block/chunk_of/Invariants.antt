-- The first samples are those of the first bytes.
use Rattle.std.proofs.Common.{◌≡◌, ◌*◌, length, take}
use Rattle.pcm_base.specs.Recordings.{samples_of_bytes}
use Rattle.recorder_threads.proofs.block.chunk_of.Given as goal

abbrev pub invariant-loop-i : goal.invariant-loop-i
invariant-loop-i l = record {
  wide : length l.samples ≡ 256;
  done : take l.i l.samples ≡ samples_of_bytes (take (2 * l.i) l.bytes);
}
