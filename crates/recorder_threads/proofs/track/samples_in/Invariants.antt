-- The samples of the first chunks.
use Rattle.std.proofs.Common.{◌≡◌, ◌*◌, ◌≤◌, length, take, sum_by}
use Rattle.edit_ports.specs.Answers.{samples_of}
use Rattle.recorder_threads.proofs.track.samples_in.Given as goal

abbrev pub invariant-chunks : goal.invariant-chunks
invariant-chunks l = record {
  sum : l.sum ≡ sum_by length (samples_of (take l.i l.chunks));
  few : l.sum ≤ 256 * l.i;
}
