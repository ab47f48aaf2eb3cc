-- The first samples are those of the ramp.
use Rattle.std.proofs.Common.{◌≡◌, take}
use Rattle.block_writer.specs.Bringing.{ramp_samples}
use Rattle.block_writer.proofs.given.fill_ramp.Given as goal

abbrev pub invariant-loop-i : goal.invariant-loop-i
invariant-loop-i l = take l.i l.out ≡ ramp_samples l.start l.step l.from l.i
