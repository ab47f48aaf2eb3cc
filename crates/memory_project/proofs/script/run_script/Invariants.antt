-- The lines so far, and those from here on.
use Rattle.std.proofs.Common.{drop}
use Rattle.editor_core.specs.Core.{core_of}
use Rattle.memory_project.proofs.ScriptLemmas.{IsOnWay}
use Rattle.memory_project.proofs.script.run_script.Given as goal

abbrev pub invariant-lines : goal.invariant-lines
invariant-lines g l =
    IsOnWay g.S.Store (core_of l.fn.studio) l.script (core_of l.studio) (drop l.command-index l.script)
