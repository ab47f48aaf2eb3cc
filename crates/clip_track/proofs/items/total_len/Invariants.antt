-- What the loop of `total_len` keeps.
use Rattle.clip_track.proofs.Common.{◌≡◌, ◌+◌, drop, strip_len}
use Rattle.clip_track.proofs.items.total_len.Given as goal

abbrev pub invariant-loop-item : goal.invariant-loop-item
invariant-loop-item l = l.len + strip_len (drop l.item-index l.items) ≡ strip_len l.items
