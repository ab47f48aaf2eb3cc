-- As many as are asked for.
use Rattle.editor_core.proofs.Common.{◌≡◌, ◌∙◌, ◌+◌, ◌-◌, take, drop, ap, arith}
use Rattle.editor_core.proofs.events.samples_from.Goals as goal

pub returns : goal.returns
returns c =
    let size : c.args.from + c.args.len - c.args.from ≡ c.args.len = omega arith in
    c.in_ok-copy.ensures.items ∙ ap (λ n. take n (drop c.args.from c.args.samples.now)) size
