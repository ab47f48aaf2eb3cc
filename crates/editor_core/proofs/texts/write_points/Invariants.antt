-- The points so far are written, and there is room for those that are left.
use Rattle.editor_core.proofs.Common.{◌≡◌, ◌+◌, length, take, drop, map, flat_map, points_size, point_bytes, row}
use Rattle.editor_core.proofs.texts.write_points.Given as goal

abbrev pub invariant-loop-i : goal.invariant-loop-i
invariant-loop-i l = record {
  written : take l.at l.out ≡ flat_map row (take l.i l.history.history.points);
  room : l.at + points_size (map point_bytes (drop l.i l.history.history.points)) ≡ length l.out;
}
