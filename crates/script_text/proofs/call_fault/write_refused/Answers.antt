-- Behind nothing, the word, the reason and the end of the line.
use Rattle.std.proofs.Common.{[], ◌++◌, codes}
use Rattle.script_text.specs.CallFault.{call_fault_text, refused_text}
use Rattle.script_text.proofs.call_fault.write_refused.Goals as goal

pub returns-clause-bytes : goal.returns-clause-bytes
returns-clause-bytes g c =
    let start = g.O.Sink.written c.args.out.now in
    let word = codes "refused " in
    let why = word ++ call_fault_text c.args.fault in
    let begun = c.put.ensures.bytes start [] (c.new-text.ensures.bytes start) in
    let said = c.put-2.ensures.bytes start why (c.put_call_fault.ensures.bytes start word begun) in
    c.finish.ensures.bytes start (refused_text c.args.fault) said

pub returns-clause-cause : goal.returns-clause-cause
returns-clause-cause g c =
    let start = g.O.Sink.fault_count c.args.out.now in
    let said = c.put_call_fault.ensures.cause start (c.put.ensures.cause start (c.new-text.ensures.cause start)) in
    c.finish.ensures.cause start (c.put-2.ensures.cause start said)
