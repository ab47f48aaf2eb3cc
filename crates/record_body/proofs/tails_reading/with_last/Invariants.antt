-- The clips so far are copied.
use Rattle.record_body.proofs.Common.{◌≡◌, take}
use Rattle.record_body.proofs.tails_reading.with_last.Given as goal

abbrev pub invariant-loop-i : goal.invariant-loop-i
invariant-loop-i l = l.out.items ≡ take l.i l.clips
