-- The bytes of the tracks so far, and of those that are left; each has less than 2^38 of them.
use Rattle.record_body.proofs.Common.{◌≡◌, ◌+◌, ◌*◌, ◌^◌, ◌≤◌, length, drop, flat_map, diff_bytes}
use Rattle.record_body.proofs.changes_writing.all_diff_len.Given as goal

abbrev pub invariant-loop-i : goal.invariant-loop-i
invariant-loop-i l = record {
  same : l.len + length (flat_map (diff_bytes l.current) (drop l.i l.point))
      ≡ length (flat_map (diff_bytes l.current) l.point);
  few : l.len ≤ l.i * 2 ^ 38;
}
