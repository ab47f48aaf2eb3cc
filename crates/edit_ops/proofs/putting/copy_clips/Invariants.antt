-- What the loop of `copy_clips` keeps.
use Rattle.edit_ops.proofs.Common.{◌≡◌, ◌++◌, drop}
use Rattle.edit_ops.specs.{Joins.moved, Windows.StartsFit}
use Rattle.edit_ops.proofs.putting.copy_clips.Given as goal

abbrev pub invariant-loop-clip : goal.invariant-loop-clip
invariant-loop-clip l = record {
  all_clips : l.out.items ++ moved l.from l.to (drop l.clip-index l.clips) ≡ l.fn.out.items ++ moved l.from l.to l.clips;
  fit : StartsFit (moved l.from l.to (drop l.clip-index l.clips));
}
