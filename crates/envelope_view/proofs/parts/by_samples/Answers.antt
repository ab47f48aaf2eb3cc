-- Nothing is read where there is nothing to read.
use Rattle.envelope_view.proofs.Common.{◌≡◌, ◌-◌, ◌∙◌, ℕ, take, drop, ap, arith, common_steps, summary_of}
use Rattle.envelope_view.proofs.{BlockReads.block_err, BlockReads.block_none, BlockReads.block_ok}
use Rattle.envelope_view.proofs.{KeptLaws.part_samples}
use Rattle.envelope_view.proofs.parts.by_samples.Goals as goal

pub returns-then-from-to : goal.returns-then-from-to
returns-then-from-to g c = block_none _ (g.met.S.Store.may_fewer _) (λ told xs e len.
    let none : 0 ≡ c.args.to - c.args.from = omega (arith, c.if-from-to.true) in
    ap (λ (n : ℕ). summary_of (take n (drop c.args.from xs))) none)

pub returns-in_err-read_samples : goal.returns-in_err-read_samples
returns-in_err-read_samples g c = block_err _ c.from_residual.ensures.1 c.in_err-read_samples.ensures
    (part_samples _ c.args.block c.args.from c.args.to c.args.from _ (omega arith) (grind (arith, common_steps)))

pub returns : goal.returns
returns g c = block_ok c.in_ok-read_samples.ensures
    (part_samples _ c.args.block c.args.from c.args.to c.args.from _ (omega arith) (grind (arith, common_steps)))
    (λ xs of got. c.of.ensures.exact ∙ ap summary_of (got
    ∙ ap (λ (n : ℕ). take n (drop c.args.from xs)) (grind (arith, common_steps))))
