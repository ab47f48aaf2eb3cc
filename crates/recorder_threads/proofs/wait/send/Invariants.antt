-- Nothing was sent yet.
use Rattle.std.proofs.Common.{◌≡◌}
use Rattle.record_ring.specs.Ends.{sent, SameIn}
use Rattle.recorder_threads.proofs.wait.send.Given as goal

abbrev pub invariant-loop : goal.invariant-loop
invariant-loop g l = (sent l.input ≡ sent l.initial.input) × SameIn l.initial.input l.input
