-- One strip more.
use Rattle.editor_core.proofs.Common.{refl, sym, subst, [], ◌∷◌, take, slice_get_read, AllByRecursion, AreItems}
use Rattle.editor_core.proofs.Common.{all_append, take_some}
use Rattle.editor_core.proofs.cuts.see_items.Goals as goal

pub loop-strip-preserved : goal.loop-strip-preserved
loop-strip-preserved c =
    let strips = c.args.strips.now in
    let i = c.loop-strip.strip-index in
    let one = c.strip-item.result in
    let here = slice_get_read strips _ i one refl c.loop-strip-test.true c.strip-item.is in
    subst (AllByRecursion AreItems) (sym (take_some strips i one here))
    (all_append AreItems (take i strips) (one ∷ []) c.loop-strip.invariant (c.as_slice-items.ensures.ok, tt))
