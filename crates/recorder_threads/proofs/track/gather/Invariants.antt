-- What was received is in the buffer, but for the chunk that came last.
use Rattle.std.proofs.Common.{◌≡◌, ℤ, ◌-◌, ◌<◌, List, ◌++◌, length, take}
use Rattle.edit_ports.specs.Answers.{samples_of}
use Rattle.pcm_base.specs.Recordings.{numbered}
use Rattle.record_ring.specs.Ends.{received, SameOut}
use Rattle.recorder_threads.proofs.DrainLemmas.{Holds}
use Rattle.recorder_threads.proofs.track.gather.Given as goal

abbrev pub invariant-chunks : goal.invariant-chunks
invariant-chunks g l = record {
  ring : SameOut l.fn.output l.output;
  size : length l.batch ≡ length l.fn.batch;
  room : l.count < length l.batch;
  holds : (before : List (List ℤ)) → received l.fn.output ≡ numbered 0 before
      → Holds (received l.output) (before ++ samples_of (take l.count l.batch)) l.chunk;
}

abbrev pub decreases-chunks : goal.decreases-chunks
decreases-chunks g l = length l.batch - l.count
