-- The files so far that are there.
use Rattle.memory_disk.proofs.Common.{◌≡◌, map, take, is_some, filter, Head}
use Rattle.memory_disk.proofs.listing.list_files.Given as goal

abbrev pub invariant-loop-head : goal.invariant-loop-head
invariant-loop-head l =
    l.out.items ≡ map (λ (h : Head). h.file) (filter (λ (h : Head). is_some h.size) (take l.head-index l.heads))
