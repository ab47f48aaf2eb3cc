-- The bytes of the clips so far, and of those that are left.
use Rattle.record_body.proofs.Common.{◌≡◌, ◌+◌, length, drop, flat_map, clip_bytes}
use Rattle.record_body.proofs.writing.clips_len.Given as goal

abbrev pub invariant-loop-i : goal.invariant-loop-i
invariant-loop-i l = l.len + length (flat_map clip_bytes (drop l.i l.clips)) ≡ length (flat_map clip_bytes l.clips)
