-- The bytes of the points so far, and of those that are left.
use Rattle.editor_core.proofs.Common.{◌≡◌, ◌+◌, ◌*◌, ◌^◌, ◌≤◌, take, drop, map, points_size, point_bytes}
use Rattle.project_journal.specs.{Packing.AreShort}
use Rattle.editor_state.specs.Packing.{points_in}
use Rattle.editor_core.proofs.texts.points_len.Given as goal

abbrev pub invariant-loop-i : goal.invariant-loop-i
invariant-loop-i l = record {
  same : l.len + points_size (map point_bytes (drop l.i l.history.history.points))
      ≡ points_size (points_in l.history.history);
  few : l.len ≤ l.i * (2 ^ 32 + 4);
  short : AreShort (map point_bytes (take l.i l.history.history.points));
}
