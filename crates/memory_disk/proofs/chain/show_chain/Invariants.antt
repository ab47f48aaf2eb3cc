-- The window shows the file before its next call.
use Rattle.memory_disk.proofs.Common.{◌≡◌, ◌≤◌, ◌-◌, bytes_of, IsWindow, reads_at, file_at}
use Rattle.memory_disk.proofs.chain.show_chain.Given as goal

abbrev pub invariant-loop-next : goal.invariant-loop-next
invariant-loop-next l = record {
  from : l.head.first ≤ l.next;
  to : l.next ≤ l.head.last;
  of_file : file_at l.calls l.next ≡ l.head.file;
  shows : IsWindow (bytes_of (reads_at l.row l.calls l.next l.head.file)) l.at l.buf;
}

abbrev pub decreases-loop-next : goal.decreases-loop-next
decreases-loop-next l = l.head.last - l.next
