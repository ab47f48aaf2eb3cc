-- The last tests of the padded bytes are those of all.
use Rattle.project_journal.proofs.Common.{◌∙◌, refl, subst, List, ◌++◌, Damaged, base_tests, Tested}
use Rattle.project_journal.specs.Header.{number_tests}
use Rattle.project_journal.proofs.{Padded.padded_alike, Parses.last_alike}
use Rattle.project_journal.proofs.base_header.test_second.Goals as goal

pub returns : goal.returns
returns c =
    let bytes = c.args.bytes.now in
    subst (λ (xs : List Damaged). Tested (number_tests 2 bytes ++ (base_tests bytes ++ xs)) c.test_later.result)
    (c.last_tests_of.ensures ∙ last_alike (padded_alike _ bytes c.head_of.ensures refl)) c.test_later.ensures
