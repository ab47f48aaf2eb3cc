-- The fields, and then what stands after them.
use Rattle.project_journal.proofs.Common.{◌∙◌, refl}
use Rattle.project_journal.proofs.{Headers.tested_then, Headers.failed_then, Padded.padded_alike, Parses.base_alike}
use Rattle.project_journal.proofs.base_header.test_base.Goals as goal

pub returns-in-Ok : goal.returns-in-Ok
returns-in-Ok c = tested_then c.args.last.now c.first_failure-in-Ok.result
    (c.base_tests_of.ensures ∙ base_alike (padded_alike _ c.args.bytes.now c.head_of.ensures refl))
    c.in-Ok.ensures
    c.first_failure-in-Ok.ensures

pub returns-in-Err : goal.returns-in-Err
returns-in-Err c = failed_then c.args.last.now
    (c.base_tests_of.ensures ∙ base_alike (padded_alike _ c.args.bytes.now c.head_of.ensures refl))
    c.in-Err.ensures
