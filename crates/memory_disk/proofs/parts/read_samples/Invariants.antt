-- The samples so far are read, and the file has them.
use Rattle.std.proofs.Common.{◌≡◌, ◌≤◌, ◌<◌, ◌+◌, ◌-◌, ◌*◌, length, take}
use Rattle.disk_model.specs.{Disk.bytes_of, Parts.samples_from}
use Rattle.memory_disk.specs.History.{reads_of}
use Rattle.memory_disk.proofs.parts.read_samples.Given as goal

abbrev pub invariant-buffers : goal.invariant-buffers
invariant-buffers l = record {
  within : l.done ≤ length l.out;
  there : 0 < l.done → l.at + 2 * l.done ≤ length (bytes_of (reads_of l.log.history l.file));
  samples : take l.done l.out ≡ samples_from (bytes_of (reads_of l.log.history l.file)) l.at l.done;
}

abbrev pub decreases-buffers : goal.decreases-buffers
decreases-buffers l = length l.initial.out - l.done
