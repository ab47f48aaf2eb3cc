-- The goals of `append_strip` that the search leaves open.
use Rattle.edit_ops.proofs.Common.{◌++◌, List, ap, ◌∙◌, arith, Item, part_items}
use Rattle.std.proofs.{lemmas.Result.on_ok_weaker}
use Rattle.clip_track.proofs.RoughStrips.{part_all}
use Rattle.edit_ops.proofs.strips.append_strip.Goals as goal

pub returns-clause-items : goal.returns-clause-items
returns-clause-items c = on_ok_weaker c.append_part.result
    (λ e.
    e ∙ ap (λ (xs : List Item). c.args.out.now.items ++ xs) (ap (part_items 0 c.len.result) c.as_slice.ensures.value
    ∙ part_all c.len.result c.args.strip.now c.as_slice.ensures.ok (omega (arith, c.len.ensures))))
    c.append_part.ensures.items
