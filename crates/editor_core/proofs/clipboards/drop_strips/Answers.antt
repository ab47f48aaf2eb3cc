-- The strips so far.
use Rattle.editor_core.proofs.Common.{refl, sym, subst, List, slice_get_read, Item, strip_blocks, AreSingle}
use Rattle.editor_core.proofs.Common.{Unnames, all_here, unnamed_on}
use Rattle.editor_core.proofs.clipboards.drop_strips.Goals as goal

pub drop_items-requires : goal.drop_items-requires
drop_items-requires c =
    let here = slice_get_read c.args.strips.now _ c.loop-strip.strip-index c.strip-item.result refl
    c.loop-strip-test.true c.strip-item.is in
    subst (λ (z : List Item). AreSingle c.loop-strip.ledger (strip_blocks z)) (sym c.as_slice.ensures.value)
    (all_here strip_blocks c.args.strips.now c.loop-strip.strip-index c.strip-item.result here
    c.args.ledger.now c.loop-strip.ledger c.requires c.loop-strip.invariant)

pub loop-strip-preserved : goal.loop-strip-preserved
loop-strip-preserved c =
    let here = slice_get_read c.args.strips.now _ c.loop-strip.strip-index c.strip-item.result refl
    c.loop-strip-test.true c.strip-item.is in
    let m = c.loop-strip.ledger in
    let n = c.drop_items.new.ledger in
    unnamed_on strip_blocks c.args.strips.now c.loop-strip.strip-index c.strip-item.result here
    c.args.ledger.now m n c.loop-strip.invariant
    (subst (λ (z : List Item). Unnames m n (strip_blocks z)) c.as_slice.ensures.value c.drop_items.ensures)
