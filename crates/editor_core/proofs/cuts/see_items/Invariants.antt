-- The strips so far.
use Rattle.editor_core.proofs.Common.{take, AllByRecursion, AreItems}
use Rattle.editor_core.proofs.cuts.see_items.Given as goal

abbrev pub invariant-loop-strip : goal.invariant-loop-strip
invariant-loop-strip l = AllByRecursion AreItems (take l.strip-index l.strips)
