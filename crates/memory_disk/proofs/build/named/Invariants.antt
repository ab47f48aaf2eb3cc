-- No other file was written or removed so far.
use Rattle.memory_disk.proofs.Common.{◌≡◌, ℕ, None, false, take, nat_cmp, contains, reads_of, IsUnnamed, history_of}
use Rattle.memory_disk.proofs.build.named.Given as goal

abbrev pub invariant-loop-call : goal.invariant-loop-call
invariant-loop-call l =
    (f : ℕ) → contains nat_cmp l.there f ≡ false → IsUnnamed (history_of l.row (take l.call-index l.calls)) f
    × (reads_of (history_of l.row (take l.call-index l.calls)) f ≡ None)
