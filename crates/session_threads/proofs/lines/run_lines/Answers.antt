-- From the place at which it stands.
use Rattle.std.proofs.Common.{refl}
use Rattle.script_reader.specs.Progress.{Start}
use Rattle.script_reader.proofs.GoingLemmas.{Going-start}
use Rattle.session_threads.proofs.lines.run_lines.Goals as goal

pub returns : goal.returns
returns g c =
    let s = c.args.lines.state in
    let start : Start = record {
      place = g.E.Editor.place s.editor;
      written = g.O.Sink.written c.args.lines.streams.out.now;
    } in
    let done = c.read_script-stop.ensures in
    record {
      ran = done.ran start (rw (c.requires.fresh) (Going-start start s.line c.requires.line));
      cause = done.cause;
      reads = done.reads;
      follows = done.follows;
      same_script = refl;
      same_out = refl;
    }
