-- The tests of the tracks that are after the references.
use Rattle.edit_ops.proofs.Common.{◌≡◌, ℕ, take, length, None, ap, subst, ◌∙◌, too_narrow, layouts, longest_of}
use Rattle.pcm_base.specs.Refusals.{bad_range}
use Rattle.edit_ops.specs.{Plans.Passes}
use Rattle.edit_ops.proofs.RunLists.{layouts_take, length-layouts}
use Rattle.edit_ops.proofs.run_refusals.copy_tests.Goals as goal

pub returns : goal.returns
returns c =
    let run = c.args.run.now in
    let none : too_narrow (length (layouts run)) c.args.n ≡ None =
    ap (λ k. too_narrow k c.args.n) (length-layouts run) ∙ c.in_ok-wide.ensures in
    let long : c.longest.result ≡ longest_of (take c.args.n (layouts run)) =
    c.longest.ensures ∙ ap longest_of (layouts_take c.args.n run) in
    rw none (subst (λ (k : ℕ). Passes (bad_range c.args.from c.args.to k) c.range.result) long c.range.ensures)
