-- The first test that fails is told of the file.
use Rattle.project_journal.proofs.Common.{refl}
use Rattle.project_journal.proofs.opening.test_front.Goals as goal

pub returns-in-Err-clause-starts : goal.returns-in-Err-clause-starts
returns-in-Err-clause-starts c =
    rw c.in_file.ensures (c.if-not-is_project.ensures.0 refl, refl, c.in-Err.ensures c.args.file)
