-- No call from here on is a sync of the file.
use Rattle.memory_disk.proofs.Common.{◌≤◌, length, drop}
use Rattle.std.specs.Prelude.{All}
use Rattle.memory_disk.specs.Calls.{IsNoSync}
use Rattle.memory_disk.proofs.image.pending_from.Given as goal

abbrev pub invariant-loop-from : goal.invariant-loop-from
invariant-loop-from l = record {
  bound : l.from ≤ length l.calls;
  pending : All (IsNoSync l.file) (drop l.from l.calls);
}

abbrev pub decreases-loop-from : goal.decreases-loop-from
decreases-loop-from l = l.from
