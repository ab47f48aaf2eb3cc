-- The items so far.
use Rattle.editor_core.proofs.Common.{sym, subst, ◌+◌, take, slice_get-get_or, counts_of, Item, Gap, item_blocks}
use Rattle.editor_core.proofs.Common.{HasIds, Names, strip_flat, Few, there_here, named_on}
use Rattle.layout_uses.proofs.{Turns.few_here}
use Rattle.editor_core.proofs.clipboards.hold_items.Goals as goal

pub hold_item-requires : goal.hold_item-requires
hold_item-requires c =
    let none : Item = Gap 0 in
    let items = c.args.items.now in
    let i = c.loop-item.item-index in
    let o = c.args.ledger.now in
    let m = c.loop-item.ledger in record {
      there =
          there_here item_blocks items i _ (slice_get-get_or items i none c.loop-item-test.true) o m
          (subst (HasIds (counts_of o)) (strip_flat items) c.requires.there)
          (subst (Names o m) (strip_flat (take i items)) c.loop-item.invariant);
      few =
          few_here item_blocks items i _ (slice_get-get_or items i none c.loop-item-test.true) o m
          (subst (Few (counts_of o)) (strip_flat items) c.requires.few)
          (subst (Names o m) (strip_flat (take i items)) c.loop-item.invariant);
    }

pub loop-item-preserved : goal.loop-item-preserved
loop-item-preserved c =
    let none : Item = Gap 0 in
    let items = c.args.items.now in
    let i = c.loop-item.item-index in
    let o = c.args.ledger.now in
    let m = c.loop-item.ledger in
    let n = c.hold_item.new.ledger in
    subst (Names o n) (sym (strip_flat (take (i + 1) items)))
    (named_on item_blocks items i _ (slice_get-get_or items i none c.loop-item-test.true) o m n
    (subst (Names o m) (strip_flat (take i items)) c.loop-item.invariant) c.hold_item.ensures)
