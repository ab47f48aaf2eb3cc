-- What becomes of the lines of a script.
use Rattle.std.specs.Prelude.{◌≡◌}
use Rattle.script_reader.specs.Progress.{IsCauseOf, IsReadTo, Ran, reached}
use Rattle.script_reader.specs.{declared.stop.Stop.Stop, Change.change}
use Rattle.session_threads.specs.declared.lines.Lines.{Lines}
use Rattle.edit_ports.specs.declared.sink.Sink as sink
use Rattle.edit_ports.specs.declared.source.Source as source
use Rattle.script_reader.specs.declared.editor.Editor as editor

-- A script was read and answered, from the place of its editor before to that of its editor after, up to what stopped
-- it. That has its cause in the counts of faults of the streams, and these are the streams that were lent.
pub record RanLines {E A O : Type 0} (editors : editor.Ghosts E) (sources : source.Ghosts A) (sinks : sink.Ghosts O)
    (stop : Stop) (before now : Lines E A O) : Type 0 where
  pub ran : Ran stop
      (reached (record {
        place = editors.place before.state.editor;
        written = sinks.written before.streams.out.now;
      })
      (editors.place now.state.editor) (sinks.written now.streams.out.now) now.state.refused)
      (change (sources.left before.streams.script.now) (sources.left now.streams.script.now))
  pub cause : IsCauseOf stop
      (change (sources.fault_count before.streams.script.now) (sources.fault_count now.streams.script.now))
      (change (sinks.fault_count before.streams.out.now) (sinks.fault_count now.streams.out.now))
  pub reads : IsReadTo sources stop (change before.streams.script.now now.streams.script.now)
  pub follows : (first : E) → editors.follows first before.state.editor → editors.follows first now.state.editor
  pub same_script : now.streams.script.ghost_name ≡ before.streams.script.ghost_name
  pub same_out : now.streams.out.ghost_name ≡ before.streams.out.ghost_name
