-- The blocks so far are dropped.
use Rattle.layout_uses.proofs.Common.{sym, subst, take, slice_get-get_or, BlockRef, take_some, Unnames}
use Rattle.layout_uses.proofs.{Times.unnames_more, Turns.next_single, Turns.single_occurs, Turns.single_one}
use Rattle.layout_uses.proofs.blocks.drop_blocks.Goals as goal

pub drop_one-requires : goal.drop_one-requires
drop_one-requires c =
    let none : BlockRef = record { id = 0; len = 0 } in
    single_one _ c.loop-block.ledger
    (next_single c.args.blocks.now c.loop-block.block-index _ c.args.ledger.now c.loop-block.ledger
    (slice_get-get_or c.args.blocks.now c.loop-block.block-index none c.loop-block-test.true) c.requires
    c.loop-block.invariant)

pub loop-block-preserved : goal.loop-block-preserved
loop-block-preserved c =
    let none : BlockRef = record { id = 0; len = 0 } in
    let here = slice_get-get_or c.args.blocks.now c.loop-block.block-index none c.loop-block-test.true in
    let some = single_occurs _ c.loop-block.ledger
    (next_single c.args.blocks.now c.loop-block.block-index _ c.args.ledger.now c.loop-block.ledger here c.requires
    c.loop-block.invariant) in
    subst (Unnames c.args.ledger.now c.drop_one.new.self)
    (sym (take_some c.args.blocks.now c.loop-block.block-index _ here))
    (unnames_more c.args.ledger.now c.loop-block.ledger c.drop_one.new.self
    (take c.loop-block.block-index c.args.blocks.now) _ c.loop-block.invariant some c.drop_one.ensures.counts
    c.drop_one.ensures.singles c.drop_one.ensures.lists)
