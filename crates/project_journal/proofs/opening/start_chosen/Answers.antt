-- The chosen file is one of the two.
use Rattle.project_journal.proofs.Common.{ℕ, Ok, Option, subst, Chooses}
use Rattle.project_journal.proofs.Choices.{opens_some}
use Rattle.project_journal.proofs.opening.start_chosen.Goals as goal

pub returns-in-Some-clause-some : goal.returns-in-Some-clause-some
returns-in-Some-clause-some g c =
    let some = c.in_ok-file.ensures.some in
    let picked = subst (λ (o : Option ℕ). Chooses some.files (Ok o)) c.in-Some.is some.chooses in
    opens_some c.in-Some.file c.start_in.result picked.few c.start_in.ensures.some
