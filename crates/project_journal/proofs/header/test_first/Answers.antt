-- The numbers, and then the zeros.
use Rattle.project_journal.proofs.Common.{◌≡◌, subst, None, Some, List, Damaged, first_failed}
use Rattle.project_journal.specs.Header.{number_tests, the_zeros}
use Rattle.project_journal.proofs.Headers.{tested_more, some_first}
use Rattle.project_journal.proofs.header.test_first.Goals as goal

pub returns-in-Ok : goal.returns-in-Ok
returns-in-Ok c = tested_more (number_tests 1 c.args.bytes.now) (the_zeros c.args.bytes.now) c.test_zeros.result
    (subst (λ (xs : List Damaged). first_failed xs ≡ None) c.tests_of.ensures c.in-Ok.ensures) c.test_zeros.ensures

pub returns-in-Err : goal.returns-in-Err
returns-in-Err c = some_first (number_tests 1 c.args.bytes.now) (the_zeros c.args.bytes.now) c.in-Err.damaged
    (subst (λ (xs : List Damaged). first_failed xs ≡ Some c.in-Err.damaged) c.tests_of.ensures c.in-Err.ensures)
