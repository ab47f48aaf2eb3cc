-- The calls so far have their index.
use Rattle.memory_disk.proofs.Common.{◌≤◌, ◌-◌, length, vec_len, IsIndexed, reads_at, file_at}
use Rattle.memory_disk.proofs.index.index_of.Given as goal

abbrev pub invariant-loop-index : goal.invariant-loop-index
invariant-loop-index l = record {
  bound : vec_len l.index.links ≤ length l.calls;
  indexed : IsIndexed (reads_at l.row l.calls) (file_at l.calls)
      (vec_len l.index.links) l.index.heads.items l.index.links.items;
}

abbrev pub decreases-loop-index : goal.decreases-loop-index
decreases-loop-index l = length l.calls - vec_len l.index.links
