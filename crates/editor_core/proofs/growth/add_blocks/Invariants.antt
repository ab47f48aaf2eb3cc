-- The blocks so far.
use Rattle.editor_core.proofs.Common.{◌≡◌, ◌++◌}
use Rattle.editor_core.proofs.growth.add_blocks.Given as goal

abbrev pub invariant-loop-block : goal.invariant-loop-block
invariant-loop-block l = l.all.items ≡ l.fn.all.items ++ l.yielded
