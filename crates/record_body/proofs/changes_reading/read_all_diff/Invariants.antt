-- The tracks so far, whose ids are lower, and those that are left; the tests so far pass, and those that are left
-- decide. Those so far are new, or current ones.
use Rattle.record_body.proofs.Common.{◌≡◌, ◌-◌, Some, length, map, AreNewOrCurrent, unnumbered, AllBelow, HaveDiff}
use Rattle.record_body.proofs.Steps.{SoFar, diff_row}
use Rattle.record_body.proofs.changes_reading.read_all_diff.Given as goal

abbrev pub invariant-loop : goal.invariant-loop
invariant-loop l = record {
  told : SoFar (diff_row l.limits l.bytes l.current) l.count 0 l.at (l.count - l.counter) l.from l.next
      (map Some (map unnumbered l.point));
  within : HaveDiff (l.count - l.counter) l.next l.bytes;
  below : AllBelow l.from l.point;
  many : length l.point ≡ l.counter;
  numbers : AreNewOrCurrent l.current l.point;
}
