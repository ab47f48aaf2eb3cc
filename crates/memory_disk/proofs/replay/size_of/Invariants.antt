-- The size after the calls so far.
use Rattle.memory_disk.proofs.Common.{◌≡◌, ◌≤◌, ◌^◌, IfSome, length, take, option_map, reads_of, history_of}
use Rattle.memory_disk.proofs.replay.size_of.Given as goal

abbrev pub invariant-loop-call : goal.invariant-loop-call
invariant-loop-call l = record {
  size : l.size ≡ option_map length (reads_of (history_of l.row (take l.call-index l.calls)) l.file);
  bounded : IfSome l.size (λ n. n ≤ 2 ^ 62);
}
