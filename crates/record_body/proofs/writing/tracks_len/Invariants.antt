-- The bytes of the tracks so far, and of those that are left; each has less than 2^37 of them.
use Rattle.record_body.proofs.Common.{◌≡◌, ◌+◌, ◌*◌, ◌^◌, ◌≤◌, length, take, drop, flat_map, track_bytes, AreLayouts}
use Rattle.record_body.proofs.writing.tracks_len.Given as goal

abbrev pub invariant-loop-i : goal.invariant-loop-i
invariant-loop-i l = record {
  same : l.len + length (flat_map track_bytes (drop l.i l.point)) ≡ length (flat_map track_bytes l.point);
  few : l.len ≤ l.i * 2 ^ 37;
  layouts : AreLayouts (take l.i l.point);
}
