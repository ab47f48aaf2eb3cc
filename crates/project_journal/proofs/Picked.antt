-- One file is chosen at most, and where one is, no choice fails.
use Rattle.project_journal.proofs.Common.{◌≡◌, ◌⊎◌, inl, inr, ⊎_elim, ℕ, zero, suc, ◌<◌, ◌≤◌, Some, None, List, [], ◌∷◌}
use Rattle.project_journal.proofs.Common.{◌++◌, refl, sym, ◌∙◌, ap, subst, arith, cases_eq, eq-eqb, Files, bytes_of}
use Rattle.project_journal.proofs.Common.{FailsIn, IsPicked, newer_test, other_file, Damaged, IsProject, first_failed}
use Rattle.project_journal.proofs.Common.{differ}
use Rattle.project_journal.specs.Choice.{HasChoiceFault, choice_tests, generation_at}
use Rattle.project_journal.proofs.Headers.{none_first}

pub zero_or_one : (n : ℕ) → n ≤ 1 → (n ≡ 0) ⊎ (n ≡ 1)
zero_or_one zero few = inl refl
zero_or_one (suc zero) few = inr refl
zero_or_one (suc (suc n)) few = absurd (omega (arith, few))

-- of two files that are chosen each would be the older
lower : (f g : ℕ) (files : Files) → IsPicked f files → IsPicked g files → other_file f ≡ g
    → generation_at (bytes_of (files g)) < generation_at (bytes_of (files f))
lower f g files p q other =
    let there = subst (λ (n : ℕ). IsProject (bytes_of (files n))) (sym other) q.project in
    let older = p.newest there in
    omega (arith, older.lower, ap (λ (n : ℕ). generation_at (bytes_of (files n))) other)

pub picked_once : (f g : ℕ) (files : Files) → IsPicked f files → IsPicked g files → f ≡ g
picked_once f g files p q = ⊎_elim
    (λ same. same)
    (λ not.
    let one = lower f g files p q (omega (arith, p.few, q.few, not)) in
    let two = lower g f files q p (omega (arith, p.few, q.few, not)) in
    absurd (omega (arith, one, two)))
    (cases_eq f g)

pub newer_passes : (first second : List ℕ) → (generation_at first ≡ generation_at second → ⊥)
    → first_failed (newer_test first second ∷ []) ≡ None
newer_passes first second not =
    rw (
      differ (generation_at first) (generation_at second) not,
      eq-eqb (generation_at second) (generation_at second) refl,
    ) refl

-- both can be chosen, and one is older
both_valid : (first second : List ℕ) (file : ℕ) (d : Damaged) → first_failed (choice_tests first) ≡ None
    → first_failed (choice_tests second) ≡ None → (generation_at first ≡ generation_at second → ⊥)
    → FailsIn first second file d → ⊥
both_valid first second file d one two not fails = ⊎_elim
    (λ here. let no : None ≡ Some d = sym one ∙ here.1 in absurd cc)
    (λ there.
    let all : first_failed (choice_tests second ++ newer_test first second ∷ []) ≡ None =
    none_first (choice_tests second) (newer_test first second ∷ []) two ∙ newer_passes first second not in
    let no : None ≡ Some d = sym all ∙ there.2 in
    absurd cc)
    fails

pub no_choice_fault : (picked : ℕ) (files : Files) (file : ℕ) (d : Damaged) → IsPicked picked files
    → HasChoiceFault files file d → ⊥
no_choice_fault picked files file d is fault = ⊎_elim
    (λ first. by_first (subst (λ (n : ℕ). IsPicked n files) first is))
    (λ second. by_second (subst (λ (n : ℕ). IsPicked n files) second is))
    (zero_or_one picked is.few)
  where
    by_first : IsPicked 0 files → ⊥
    by_first p =
        let older = p.newest fault.second in
        both_valid (bytes_of (files 0)) (bytes_of (files 1)) file d (p.valid fault.second) older.valid
        (λ e. omega (arith, e, older.lower)) fault.fails

    by_second : IsPicked 1 files → ⊥
    by_second p =
        let older = p.newest fault.first in
        both_valid (bytes_of (files 0)) (bytes_of (files 1)) file d older.valid (p.valid fault.first)
        (λ e. omega (arith, e, older.lower)) fault.fails
