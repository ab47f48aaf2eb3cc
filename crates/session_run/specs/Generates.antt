-- The script of a number, run in memory.
use Rattle.std.specs.Prelude.{◌⊎◌, ℕ}
use Rattle.disk_model.specs.declared.store.Store.{Ghosts}
use Rattle.memory_project.specs.Sums.{RanScript}
use Rattle.script_text.specs.{declared.summary.Summary.Summary, Summary.summary_text}
use Rattle.session_run.specs.{declared.ending.Done.Done, Refused.IsDone, Refused.IsRefused, Streams.Prints}
use Rattle.session_run.specs.{Streams.Streams}
use Rattle.script_text.specs.declared.call_fault.CallFault.TheVariants as call

-- the number of a script, and how many lines it has
pub record Numbered : Type 0 where
  pub number : ℕ
  pub lines : ℕ

-- It was run on the memory disk, which did not fail, and its sum is printed.
pub record Generated {M C : Type 0} (ram : Ghosts M) (script : Numbered) (s : Streams) (done : Done C) : Type 0 where
  pub sum : Summary
  pub ran : RanScript ram script.number script.lines sum
  pub printed : Prints s (summary_text sum)
  pub done_is : IsDone 0 done

-- The word `gen`: that, or there is no memory for it.
abbrev pub Generates : {M C : Type 0} → Ghosts M → Numbered → Streams → Done C → Type 0
Generates ram script s done = Generated ram script s done ⊎ IsRefused call.NoMemory s done
