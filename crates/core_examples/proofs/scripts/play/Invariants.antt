-- It is a studio at each row.
use Rattle.editor_core.specs.Core.{core_of}
use Rattle.editor_state.specs.Studios.{IsStudio}
use Rattle.core_examples.proofs.scripts.play.Given as goal

abbrev pub invariant-rows : goal.invariant-rows
invariant-rows g l = IsStudio g.S.Store (core_of l.studio)
