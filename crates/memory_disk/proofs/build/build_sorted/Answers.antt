-- The files that are named are all that the image has.
use Rattle.memory_disk.proofs.Common.{◌∙◌, ap, Left, image_of, history_of}
use Rattle.memory_disk.specs.{Images.state_at}
use Rattle.memory_disk.proofs.Names.{built_all, not_listed}
use Rattle.memory_disk.proofs.build.build_sorted.Goals as goal

pub build_all-requires-clause-others : goal.build_all-requires-clause-others
build_all-requires-clause-others c = λ f out.
    (c.in_ok-there.ensures f (not_listed c.in_ok-there.there c.deref.result.now f
    (c.deref.ensures.value ∙ c.in_ok-copy_numbers.ensures.items) out)).0

pub returns-clause-image : goal.returns-clause-image
returns-clause-image c =
    let h = history_of c.args.row.now c.args.calls.now in
    let choice = c.args.choice in
    built_all c.in_ok-there.there c.deref.result.now (image_of choice h) _
    (c.deref.ensures.value ∙ c.in_ok-copy_numbers.ensures.items)
    (λ f absent. ap (λ (left : Left). left.content) ((c.in_ok-there.ensures f absent).0 choice (state_at choice h f)))
    c.in_ok-parts.ensures.built
