-- The numbers, and then what stands after them.
use Rattle.project_journal.proofs.Common.{◌++◌, base_tests}
use Rattle.project_journal.proofs.Headers.{tested_then, failed_then}
use Rattle.project_journal.proofs.base_header.test_later.Goals as goal

pub returns-in-Ok : goal.returns-in-Ok
returns-in-Ok c = tested_then (base_tests c.args.bytes.now ++ c.args.last.now) c.test_base.result c.tests_of.ensures
    c.in-Ok.ensures c.test_base.ensures

pub returns-in-Err : goal.returns-in-Err
returns-in-Err c = failed_then (base_tests c.args.bytes.now ++ c.args.last.now) c.tests_of.ensures c.in-Err.ensures
