-- The lines so far, and those from here on.
use Rattle.std.proofs.Common.{◌≡◌, ◌-◌, ◌++◌}
use Rattle.script_gen.specs.{Bounds.IsPlace, Script.script_of, Script.lines_from}
use Rattle.script_gen.proofs.script.generate.Given as goal

abbrev pub invariant-loop-made : goal.invariant-loop-made
invariant-loop-made l = record {
  place : IsPlace l.place;
  script : l.script.items ++ lines_from (l.lines - l.made) l.place ≡ script_of l.number l.lines;
}
