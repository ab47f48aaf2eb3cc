-- The head has the size.
use Rattle.memory_disk.proofs.Common.{ℕ, Option, IfSome, ◌≤◌, ◌^◌, length, sym, subst, ap, ◌∙◌, option_map, reads_of}
use Rattle.memory_disk.proofs.Common.{Log}
use Rattle.memory_disk.proofs.{Chains.size_bound, ReadChain.size_read}
use Rattle.memory_disk.proofs.log.CallLog.size.Goals as goal

pub returns-clause-size : goal.returns-clause-size
returns-clause-size c =
    c.size.ensures ∙ size_read _ _ _ _ c.self.invariant.indexed c.args.file
    ∙ ap (λ (log : Log). option_map length (reads_of log.history c.args.file)) c.self.view_is

pub returns-clause-bound : goal.returns-clause-bound
returns-clause-bound c = subst (λ (o : Option ℕ). IfSome o (λ n. n ≤ 2 ^ 62)) (sym c.size.ensures)
    (size_bound _ _ _ _ _ c.self.invariant.indexed c.args.file)
