-- Behind nothing, one line after another.
use Rattle.std.proofs.Common.{[], ◌++◌}
use Rattle.script_text.specs.Summary.{run_text, found_text, summary_text}
use Rattle.script_text.proofs.summary.write_summary.Goals as goal

pub returns-clause-bytes : goal.returns-clause-bytes
returns-clause-bytes g c =
    let start = g.O.Sink.written c.args.out.now in
    let s = c.args.summary.now in
    let run = c.put_run.ensures.bytes start [] (c.new-text.ensures.bytes start) in
    let found = c.put_found.ensures.bytes start (run_text s) run in
    let said = c.put.ensures.bytes start (run_text s ++ found_text s) found in
    c.finish.ensures.bytes start (summary_text s) said

pub returns-clause-cause : goal.returns-clause-cause
returns-clause-cause g c =
    let start = g.O.Sink.fault_count c.args.out.now in
    let run = c.put_run.ensures.cause start (c.new-text.ensures.cause start) in
    c.finish.ensures.cause start (c.put.ensures.cause start (c.put_found.ensures.cause start run))
