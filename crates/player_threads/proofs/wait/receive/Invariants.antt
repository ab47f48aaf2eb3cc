-- Nothing was received yet.
use Rattle.std.proofs.Common.{◌≡◌}
use Rattle.play_ring.specs.Ends.{received, SameOut}
use Rattle.player_threads.proofs.wait.receive.Given as goal

abbrev pub invariant-loop : goal.invariant-loop
invariant-loop g l = (received l.output ≡ received l.fn.output) × SameOut l.fn.output l.output
