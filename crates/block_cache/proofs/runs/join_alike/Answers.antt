-- One frame more is joined.
use Rattle.block_cache.proofs.Common.{◌∙◌, ap, arith, ℤ}
use Rattle.std.proofs.Common.{rules}
use Rattle.std.proofs.lemmas.Int.{to_z-of_z}
use Rattle.std.specs.Int.{int_min, int_max, w16}
use mir.Val.{SFits, to_z}
use Rattle.block_cache.proofs.RunLaws.{alike_on, summary_is}
use Rattle.block_cache.proofs.runs.join_alike.Goals as goal

pub loop-i-preserved : goal.loop-i-preserved
loop-i-preserved c =
    let low : SFits w16 c.min-min.result = search rules in
    let high : SFits w16 c.max-max.result = search rules in
    let f = c.frame_at-frame in
    let lowest : SFits w16 f.result.min = search rules in
    let highest : SFits w16 f.result.max = search rules in
    let least : ℤ = to_z w16 c.loop-i.min-bits in
    let most : ℤ = to_z w16 c.loop-i.max-bits in
    alike_on c.args.bytes.now c.args.before c.args.each c.args.start c.loop-i.i least most c.loop-i.squares f.result _ _ _
    (omega arith) c.requires.some c.requires.each
    (summary_is f.result _ _ _ _ f.ensures.min f.ensures.max f.ensures.squares f.ensures.count)
    (to_z-of_z w16 c.min-min.result low ∙ c.min-min.ensures.value
    ∙ ap (int_min least) (to_z-of_z w16 f.result.min lowest))
    (to_z-of_z w16 c.max-max.result high ∙ c.max-max.ensures.value
    ∙ ap (int_max most) (to_z-of_z w16 f.result.max highest))
    c.saturating_add-squares.ensures c.loop-i.invariant
