-- The bytes of the buffer so far stand after those that were read before.
use Rattle.std.proofs.Common.{◌≡◌, ◌≤◌, ◌-◌, ℕ, ◌++◌, List, take, length}
use Rattle.script_reader.specs.Progress.{Going, Start, reached}
use Rattle.script_reader.proofs.read.take_buffer.Given as goal

abbrev pub invariant-loop-len : goal.invariant-loop-len
invariant-loop-len g l = record {
  bound : l.at ≤ length l.buffer;
  goes : (start : Start) (read : List ℕ) →
      Going (reached start (g.E.Editor.place l.fn.state.editor) (g.O.Sink.written l.fn.out) l.fn.state.refused)
      l.fn.state.line read →
      Going (reached start (g.E.Editor.place l.state.editor) (g.O.Sink.written l.out) l.state.refused)
      l.state.line (read ++ take l.at l.buffer);
  follows : (first : g.row.E.Denot) → g.E.Editor.follows first l.fn.state.editor
      → g.E.Editor.follows first l.state.editor;
  count : g.O.Sink.fault_count l.out ≡ g.O.Sink.fault_count l.fn.out;
}

abbrev pub decreases-loop-len : goal.decreases-loop-len
decreases-loop-len g l = length l.buffer - l.at
