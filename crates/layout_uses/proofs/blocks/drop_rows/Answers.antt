-- The rows so far.
use Rattle.layout_uses.proofs.Common.{refl, sym, subst, ◌+◌, take, slice_get_read, List, BlockRef, AreSingle, Unnames}
use Rattle.layout_uses.proofs.Turns.{all_here, unnamed_on, rows_flat}
use Rattle.layout_uses.proofs.blocks.drop_rows.Goals as goal

pub drop_blocks-requires : goal.drop_blocks-requires
drop_blocks-requires c =
    let here = slice_get_read c.args.rows.now _ c.loop-row.row-index c.row-item.result refl c.loop-row-test.true
    c.row-item.is in
    let o = c.args.ledger.now in
    let m = c.loop-row.ledger in
    subst (AreSingle m) (sym c.as_slice.ensures.value)
    (all_here (λ (x : List BlockRef). x) c.args.rows.now c.loop-row.row-index c.row-item.result here o m
    (subst (AreSingle o) (rows_flat c.args.rows.now) c.requires)
    (subst (Unnames o m) (rows_flat (take c.loop-row.row-index c.args.rows.now)) c.loop-row.invariant))

pub loop-row-preserved : goal.loop-row-preserved
loop-row-preserved c =
    let here = slice_get_read c.args.rows.now _ c.loop-row.row-index c.row-item.result refl c.loop-row-test.true
    c.row-item.is in
    let o = c.args.ledger.now in
    let m = c.loop-row.ledger in
    let n = c.drop_blocks.new.ledger in
    subst (Unnames o n) (sym (rows_flat (take (c.loop-row.row-index + 1) c.args.rows.now)))
    (unnamed_on (λ (x : List BlockRef). x) c.args.rows.now c.loop-row.row-index c.row-item.result here o m n
    (subst (Unnames o m) (rows_flat (take c.loop-row.row-index c.args.rows.now)) c.loop-row.invariant)
    (subst (Unnames m n) c.as_slice.ensures.value c.drop_blocks.ensures))
