-- Behind nothing, one line after another.
use Rattle.std.proofs.Common.{[], ◌++◌}
use Rattle.script_text.specs.Last.{record_text, play_text, last_text}
use Rattle.script_text.proofs.last.write_last.Goals as goal

pub returns-clause-bytes : goal.returns-clause-bytes
returns-clause-bytes g c =
    let start = g.O.Sink.written c.args.out.now in
    let recorded = record_text c.args.recording in
    let both = recorded ++ play_text c.args.playback in
    let begun = c.put_record.ensures.bytes start [] (c.new-text.ensures.bytes start) in
    let said = c.put_end.ensures.bytes start both (c.put_play.ensures.bytes start recorded begun) in
    c.finish.ensures.bytes start (last_text c.args.recording c.args.playback c.args.commit) said

pub returns-clause-cause : goal.returns-clause-cause
returns-clause-cause g c =
    let start = g.O.Sink.fault_count c.args.out.now in
    let said = c.put_record.ensures.cause start (c.new-text.ensures.cause start) in
    c.finish.ensures.cause start (c.put_end.ensures.cause start (c.put_play.ensures.cause start said))
