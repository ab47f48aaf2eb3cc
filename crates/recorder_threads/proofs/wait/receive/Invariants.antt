-- Nothing was received yet.
use Rattle.std.proofs.Common.{◌≡◌}
use Rattle.record_ring.specs.Ends.{received, SameOut}
use Rattle.recorder_threads.proofs.wait.receive.Given as goal

abbrev pub invariant-loop : goal.invariant-loop
invariant-loop g l = (received l.output ≡ received l.initial.output) × SameOut l.initial.output l.output
