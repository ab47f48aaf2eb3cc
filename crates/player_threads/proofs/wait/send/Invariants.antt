-- The first frames were sent.
use Rattle.std.proofs.Common.{◌≡◌, ◌≤◌, ◌++◌, length, take}
use Rattle.play_ring.specs.{Order.IsOpen, Ends.sent, Ends.sounds, Ends.SameIn}
use Rattle.player_threads.proofs.wait.send.Given as goal

abbrev pub invariant-loop : goal.invariant-loop
invariant-loop g l = record {
  bound : l.done ≤ length l.frames;
  ring : SameIn l.fn.input l.input;
  unended : IsOpen (sent l.input);
  first : sent l.input ≡ sent l.fn.input ++ sounds (take l.done l.frames);
}
