-- The first test that fails, in the first file and then in the second.
use Rattle.project_journal.proofs.Common.{◌∙◌, ap, inr, refl, sym, ◌∷◌, [], ℕ, newer_test, first_failed}
use Rattle.std.proofs.Common.{ap₂}
use Rattle.project_journal.specs.Choice.{choice_tests, newer_than}
use Rattle.project_journal.proofs.Headers.{failed_then, none_first}
use Rattle.project_journal.proofs.choosing.choose_newer.Goals as goal

pub returns-in-Err-first_failure-clause-chooses : goal.returns-in-Err-first_failure-clause-chooses
returns-in-Err-first_failure-clause-chooses c = rw c.in_file-in-Err-first_failure.ensures (inr (
  refl,
  ap first_failed (sym c.choice_tests_of.ensures) ∙ c.in_default.ensures,
  failed_then (newer_test c.args.first.now c.args.second.now ∷ []) c.choice_tests_of-2.ensures
      c.in-Err-first_failure.ensures,
))

pub returns-in-Err-test_newer-clause-chooses : goal.returns-in-Err-test_newer-clause-chooses
returns-in-Err-test_newer-clause-chooses c = rw c.in_file-in-Err-test_newer.ensures (inr (
  refl,
  ap first_failed (sym c.choice_tests_of.ensures) ∙ c.in_default.ensures,
  none_first (choice_tests c.args.second.now) (newer_test c.args.first.now c.args.second.now ∷ [])
      (ap first_failed (sym c.choice_tests_of-2.ensures) ∙ c.in_default-first_failure.ensures)
      ∙ sym (ap₂ (λ (a b : ℕ). first_failed (newer_than a b ∷ [])) c.generation_of-a.ensures c.generation_of-b.ensures)
      ∙ c.in-Err-test_newer.ensures,
))
