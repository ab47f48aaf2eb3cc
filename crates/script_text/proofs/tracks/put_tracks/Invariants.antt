-- The tracks so far stand after the text.
use Rattle.std.proofs.Common.{take}
use Rattle.std.specs.List.{flat_map}
use Rattle.script_text.specs.{Gathering.Adds, Gathering.Counts, Text.track_text}
use Rattle.script_text.proofs.tracks.put_tracks.Given as goal

abbrev pub invariant-loop-track : goal.invariant-loop-track
invariant-loop-track g l = record {
  bytes : Adds l.fn.text (g.O.Sink.written l.fn.out) l.text (g.O.Sink.written l.out)
      (flat_map track_text (take l.track-index l.tracks));
  cause : Counts l.fn.text (g.O.Sink.fault_count l.fn.out) l.text (g.O.Sink.fault_count l.out);
}
