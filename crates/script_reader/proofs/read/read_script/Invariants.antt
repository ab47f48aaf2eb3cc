-- The bytes so far brought the state here, and nothing failed.
use Rattle.std.proofs.Common.{◌≡◌, ◌-◌, ◌≤◌, []}
use Rattle.edit_ports.specs.Told.{Open}
use Rattle.script_reader.specs.{Change.change, Progress.Going, Progress.Reading, Progress.Start, Progress.reached}
use Rattle.script_reader.proofs.read.read_script.Given as goal

abbrev pub invariant-loop-total : goal.invariant-loop-total
invariant-loop-total g l = record {
  goes : (start : Start) →
      Going (reached start (g.E.Editor.place l.fn.state.editor) (g.O.Sink.written l.fn.out) l.fn.state.refused)
      l.fn.state.line [] →
      Reading (reached start (g.E.Editor.place l.state.editor) (g.O.Sink.written l.out) l.state.refused)
      (change (g.A.Source.left l.fn.script) (g.A.Source.left l.script)) l.state.line l.total;
  follows : (first : g.row.E.Denot) → g.E.Editor.follows first l.fn.state.editor
      → g.E.Editor.follows first l.state.editor;
  reads : (first : g.row.A.Denot) → g.A.Source.follows first Open l.fn.script
      → g.A.Source.follows first Open l.script;
  bound : l.total ≤ 4294967296;
  source : g.A.Source.fault_count l.script ≡ g.A.Source.fault_count l.fn.script;
  sink : g.O.Sink.fault_count l.out ≡ g.O.Sink.fault_count l.fn.out;
}

abbrev pub decreases-loop-total : goal.decreases-loop-total
decreases-loop-total g l = 4294967296 - l.total
