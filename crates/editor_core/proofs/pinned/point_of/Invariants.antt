-- None of the pins so far has the number.
use Rattle.editor_core.proofs.Common.{take, LacksPin}
use Rattle.editor_core.proofs.pinned.point_of.Given as goal

abbrev pub invariant-loop-pin : goal.invariant-loop-pin
invariant-loop-pin l = LacksPin l.number (take l.pin-index l.pins)
