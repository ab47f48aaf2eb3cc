-- The blocks of one track more.
use Rattle.editor_core.proofs.Common.{◌++◌, List, take, sym, ap, ◌∙◌, append_assoc, BlockRef, layout_blocks}
use Rattle.editor_core.proofs.Common.{point_blocks, Track, next}
use Rattle.editor_core.proofs.scans.add_point.Goals as goal

pub loop-i-preserved : goal.loop-i-preserved
loop-i-preserved c =
    let old = c.args.blocks.now.items in
    let ts = c.args.point.now in
    let t = c.track_at.result.now in
    let before = point_blocks (take c.loop-i.i ts) in
    c.in_ok-add_clips.ensures
    ∙ ap (λ cs. c.loop-i.blocks.items ++ layout_blocks cs) c.as_slice.ensures.value
    ∙ ap (λ (bs : List BlockRef). bs ++ layout_blocks t.layout) c.loop-i.invariant
    ∙ append_assoc old before (layout_blocks t.layout)
    ∙ ap (λ (bs : List BlockRef). old ++ bs)
    (sym (next (λ (x : Track). layout_blocks x.layout) ts c.loop-i.i t c.track_at.ensures))
