-- Behind nothing, the count, and the last line.
use Rattle.std.proofs.Common.{[], ◌++◌, codes}
use Rattle.script_text.specs.{Text.with_number, Project.checked_text}
use Rattle.script_text.proofs.project.write_checked.Goals as goal

pub returns-clause-bytes : goal.returns-clause-bytes
returns-clause-bytes g c =
    let start = g.O.Sink.written c.args.out.now in
    let count = codes "checked" ++ with_number c.args.count in
    let line = count ++ codes "\n" in
    let begun = c.put_named.ensures.bytes start [] (c.new-text.ensures.bytes start) in
    let said = c.put_end.ensures.bytes start line (c.put.ensures.bytes start count begun) in
    c.finish.ensures.bytes start (checked_text c.args.count c.args.commit) said

pub returns-clause-cause : goal.returns-clause-cause
returns-clause-cause g c =
    let start = g.O.Sink.fault_count c.args.out.now in
    let said = c.put.ensures.cause start (c.put_named.ensures.cause start (c.new-text.ensures.cause start)) in
    c.finish.ensures.cause start (c.put_end.ensures.cause start said)
