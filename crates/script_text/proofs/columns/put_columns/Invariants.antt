-- The columns so far stand after the text.
use Rattle.std.proofs.Common.{take}
use Rattle.std.specs.List.{flat_map}
use Rattle.script_text.specs.{Gathering.Adds, Gathering.Counts, Text.column_text}
use Rattle.script_text.proofs.columns.put_columns.Given as goal

abbrev pub invariant-loop-column : goal.invariant-loop-column
invariant-loop-column g l = record {
  bytes : Adds l.fn.text (g.O.Sink.written l.fn.out) l.text (g.O.Sink.written l.out)
      (flat_map column_text (take l.column-index l.columns));
  cause : Counts l.fn.text (g.O.Sink.fault_count l.fn.out) l.text (g.O.Sink.fault_count l.out);
}
