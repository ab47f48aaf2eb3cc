-- The window shows the file after the calls so far.
use Rattle.memory_disk.proofs.Common.{take, bytes_of, reads_of, history_of, IsWindow}
use Rattle.memory_disk.proofs.replay.read_window.Given as goal

abbrev pub invariant-loop-call : goal.invariant-loop-call
invariant-loop-call l = IsWindow (bytes_of (reads_of (history_of l.row (take l.call-index l.calls)) l.file)) l.at l.buf
