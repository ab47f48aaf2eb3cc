-- The blocks of one point more, and of all.
use Rattle.editor_core.proofs.Common.{◌++◌, List, sym, ap, ◌∙◌, arith, take_all, length-map, BlockRef, points_of}
use Rattle.editor_core.proofs.Common.{point_blocks, next}
use Rattle.std.proofs.Common.{flat_map}
use Rattle.pcm_base.specs.{History.point_of}
use Rattle.editor_views.proofs.BlockScans.{points_blocks}
use Rattle.editor_core.proofs.scans.blocks_of.Goals as goal

pub loop-i-preserved : goal.loop-i-preserved
loop-i-preserved c =
    let ps = points_of c.args.history.now.history in
    let p = c.point.result.now in
    c.in_ok-add_point.ensures
    ∙ ap (λ (bs : List BlockRef). bs ++ point_blocks p) c.loop-i.invariant
    ∙ sym (next point_blocks ps c.loop-i.i p c.point.ensures)

pub returns : goal.returns
returns c =
    let h = c.args.history.now.history in
    let all = take_all c.loop-i.i (points_of h)
    (omega (arith, c.loop-i-test.false, c.len-i-end.ensures.len, length-map h.points point_of)) in
    c.loop-i.invariant ∙ ap (flat_map point_blocks) all ∙ points_blocks h
