-- Nothing was sent yet.
use Rattle.std.proofs.Common.{◌≡◌}
use Rattle.play_ring.specs.Ends.{sent, SameIn}
use Rattle.player_threads.proofs.wait.send_end.Given as goal

abbrev pub invariant-loop : goal.invariant-loop
invariant-loop g l = (sent l.input ≡ sent l.fn.input) × SameIn l.fn.input l.input
