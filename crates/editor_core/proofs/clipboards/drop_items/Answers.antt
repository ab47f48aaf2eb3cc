-- The items so far.
use Rattle.editor_core.proofs.Common.{sym, subst, ◌+◌, take, slice_get-get_or, Item, Gap, item_blocks, AreSingle}
use Rattle.editor_core.proofs.Common.{Unnames, strip_flat, all_here, unnamed_on}
use Rattle.editor_core.proofs.clipboards.drop_items.Goals as goal

pub drop_item-requires : goal.drop_item-requires
drop_item-requires c =
    let none : Item = Gap 0 in
    let items = c.args.items.now in
    let i = c.loop-item.item-index in
    let o = c.args.ledger.now in
    let m = c.loop-item.ledger in
    all_here item_blocks items i _ (slice_get-get_or items i none c.loop-item-test.true) o m
    (subst (AreSingle o) (strip_flat items) c.requires)
    (subst (Unnames o m) (strip_flat (take i items)) c.loop-item.invariant)

pub loop-item-preserved : goal.loop-item-preserved
loop-item-preserved c =
    let none : Item = Gap 0 in
    let items = c.args.items.now in
    let i = c.loop-item.item-index in
    let o = c.args.ledger.now in
    let m = c.loop-item.ledger in
    let n = c.drop_item.new.ledger in
    subst (Unnames o n) (sym (strip_flat (take (i + 1) items)))
    (unnamed_on item_blocks items i _ (slice_get-get_or items i none c.loop-item-test.true) o m n
    (subst (Unnames o m) (strip_flat (take i items)) c.loop-item.invariant) c.drop_item.ensures)
