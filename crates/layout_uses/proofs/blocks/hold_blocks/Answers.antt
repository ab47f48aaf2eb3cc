-- The blocks so far are held.
use Rattle.layout_uses.proofs.Common.{sym, subst, inl, take, slice_get-get_or, BlockRef, take_some, Names}
use Rattle.layout_uses.proofs.{Times.names_more, Turns.next_there, Turns.next_few}
use Rattle.layout_uses.proofs.blocks.hold_blocks.Goals as goal

pub hold-requires-clause-room : goal.hold-requires-clause-room
hold-requires-clause-room c =
    let none : BlockRef = record { id = 0; len = 0 } in
    inl (next_there c.args.blocks.now c.loop-block.block-index _ c.args.ledger.now c.loop-block.ledger
    (slice_get-get_or c.args.blocks.now c.loop-block.block-index none c.loop-block-test.true) c.requires.there
    c.loop-block.invariant)

pub hold-requires-clause-few : goal.hold-requires-clause-few
hold-requires-clause-few c =
    let none : BlockRef = record { id = 0; len = 0 } in
    next_few c.args.blocks.now c.loop-block.block-index _ c.args.ledger.now c.loop-block.ledger
    (slice_get-get_or c.args.blocks.now c.loop-block.block-index none c.loop-block-test.true) c.requires.few
    c.loop-block.invariant

pub loop-block-preserved : goal.loop-block-preserved
loop-block-preserved c =
    let none : BlockRef = record { id = 0; len = 0 } in
    let here = slice_get-get_or c.args.blocks.now c.loop-block.block-index none c.loop-block-test.true in
    let there = next_there c.args.blocks.now c.loop-block.block-index _ c.args.ledger.now c.loop-block.ledger here
    c.requires.there c.loop-block.invariant in
    subst (Names c.args.ledger.now c.hold.new.self)
    (sym (take_some c.args.blocks.now c.loop-block.block-index _ here))
    (names_more c.args.ledger.now c.loop-block.ledger c.hold.new.self
    (take c.loop-block.block-index c.args.blocks.now) _ c.loop-block.invariant there c.hold.ensures.counts
    c.hold.ensures.singles c.hold.ensures.lists)
