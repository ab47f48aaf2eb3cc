-- What is taken, choice by choice.
use Rattle.memory_disk.proofs.Common.{ℕ, sym, ap, ◌∙◌, arith, common_steps, nat_tests}
use Rattle.memory_disk.specs.Images.{next_state, takes}
use Rattle.memory_disk.proofs.LeftFiles.{takes_all, takes_nothing}
use Rattle.memory_disk.proofs.draws.Draws.takes.Goals as goal

pub returns-in-0-clause-result : goal.returns-in-0-clause-result
returns-in-0-clause-result c = sym (ap (λ (k : ℕ). takes k (next_state c.args.self.now.state)) c.in-0.is ∙ takes_all _)

pub returns-in-1-clause-result : goal.returns-in-1-clause-result
returns-in-1-clause-result c =
    sym (ap (λ (k : ℕ). takes k (next_state c.args.self.now.state)) c.in-1.is ∙ takes_nothing _)

pub returns-in_default-clause-result : goal.returns-in_default-clause-result
unfolding takes
returns-in_default-clause-result c = grind (arith, common_steps, nat_tests, c.in_default, c.next-self.ensures)
