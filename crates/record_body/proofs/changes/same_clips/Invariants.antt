-- The clips so far are the same, so those that are left decide. So does what is left of the blocks that are known.
use Rattle.record_body.proofs.Common.{◌≡◌, ◌-◌, length, drop, layout_blocks, same_clips}
use Rattle.record_body.specs.Choices.{HasFront}
use Rattle.record_body.proofs.changes.same_clips.Given as goal

abbrev pub invariant-loop-i : goal.invariant-loop-i
invariant-loop-i l = record {
  same : same_clips (drop l.i l.old) (drop l.i l.new) ≡ same_clips l.old l.new;
  known : HasFront l.left (layout_blocks (drop l.i l.old)) (layout_blocks (drop l.i l.new));
  less : l.left - length (layout_blocks (drop l.i l.old)) ≡ l.front - length (layout_blocks l.old);
}
