-- The rows so far.
use Rattle.layout_uses.proofs.Common.{refl, sym, subst, ◌+◌, take, slice_get_read, counts_of, List, BlockRef, HasIds, Names}
use Rattle.layout_uses.proofs.{Times.Few, Turns.there_here, Turns.few_here, Turns.named_on, Turns.rows_flat}
use Rattle.layout_uses.proofs.blocks.hold_rows.Goals as goal

pub hold_blocks-requires-clause-there : goal.hold_blocks-requires-clause-there
hold_blocks-requires-clause-there c =
    let here = slice_get_read c.args.rows.now _ c.loop-row.row-index c.row-item.result refl c.loop-row-test.true
    c.row-item.is in
    let o = c.args.ledger.now in
    let m = c.loop-row.ledger in
    subst (HasIds (counts_of m)) (sym c.as_slice.ensures.value)
    (there_here (λ (x : List BlockRef). x) c.args.rows.now c.loop-row.row-index c.row-item.result here o m
    (subst (HasIds (counts_of o)) (rows_flat c.args.rows.now) c.requires.there)
    (subst (Names o m) (rows_flat (take c.loop-row.row-index c.args.rows.now)) c.loop-row.invariant))

pub hold_blocks-requires-clause-few : goal.hold_blocks-requires-clause-few
hold_blocks-requires-clause-few c =
    let here = slice_get_read c.args.rows.now _ c.loop-row.row-index c.row-item.result refl c.loop-row-test.true
    c.row-item.is in
    let o = c.args.ledger.now in
    let m = c.loop-row.ledger in
    subst (Few (counts_of m)) (sym c.as_slice.ensures.value)
    (few_here (λ (x : List BlockRef). x) c.args.rows.now c.loop-row.row-index c.row-item.result here o m
    (subst (Few (counts_of o)) (rows_flat c.args.rows.now) c.requires.few)
    (subst (Names o m) (rows_flat (take c.loop-row.row-index c.args.rows.now)) c.loop-row.invariant))

pub loop-row-preserved : goal.loop-row-preserved
loop-row-preserved c =
    let here = slice_get_read c.args.rows.now _ c.loop-row.row-index c.row-item.result refl c.loop-row-test.true
    c.row-item.is in
    let o = c.args.ledger.now in
    let m = c.loop-row.ledger in
    let n = c.hold_blocks.new.ledger in
    subst (Names o n) (sym (rows_flat (take (c.loop-row.row-index + 1) c.args.rows.now)))
    (named_on (λ (x : List BlockRef). x) c.args.rows.now c.loop-row.row-index c.row-item.result here o m n
    (subst (Names o m) (rows_flat (take c.loop-row.row-index c.args.rows.now)) c.loop-row.invariant)
    (subst (Names m n) c.as_slice.ensures.value c.hold_blocks.ensures))
