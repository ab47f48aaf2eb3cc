-- The rows so far are shared.
use Rattle.std.proofs.Common.{get_or, take}
use Rattle.row_ledger.specs.Rows.{Adds, flat}
use Rattle.row_ledger.proofs.{Comings.any_err, Comings.adds_more, Comings.laid_adds, Comings.laid_none, Room.room_more, Room.room_none}
use Rattle.row_ledger.proofs.Shares.{share_end, share_more, used_at, used_more}
use Rattle.row_ledger.proofs.laying.share.Goals as goal

pub loop-row-init : goal.loop-row-init
loop-row-init c = record {
  laid = laid_none c.args.table.now c.args.out.now.items;
  room = room_none c.args.table.now.ledger;
}

pub share_row-requires : goal.share_row-requires
share_row-requires c =
    let ks = c.args.rows.now in
    let i = c.loop-row.row-index in
    let laid = c.loop-row.invariant.laid in
    used_more c.args.table.now c.loop-row.table laid.added (get_or ks i 0) laid.come
    (used_at c.args.table.now ks i c.loop-row-test.true c.requires)

pub returns-in_err-share_row-clause-err : goal.returns-in_err-share_row-clause-err
returns-in_err-share_row-clause-err c =
    let old = c.args.table.now in
    let out = c.args.out.now.items in
    any_err c.from_residual.result (Adds old c.share_row.new.table out c.share_row.new.out.items)
    (adds_more old c.loop-row.table c.share_row.new.table out c.loop-row.out.items c.share_row.new.out.items
    (laid_adds old c.loop-row.table out c.loop-row.out.items
    (flat old.rows (take c.loop-row.row-index c.args.rows.now)) c.loop-row.invariant.laid)
    c.in_err-share_row.ensures.err)

pub returns-in_err-share_row-clause-room : goal.returns-in_err-share_row-clause-room
returns-in_err-share_row-clause-room c = room_more c.args.table.now.ledger c.loop-row.table.ledger
    c.share_row.new.table.ledger c.loop-row.invariant.room c.share_row.ensures.room

pub loop-row-preserved : goal.loop-row-preserved
loop-row-preserved c =
    let old = c.args.table.now in
    record {
      laid = share_more old c.loop-row.table c.share_row.new.table c.args.out.now.items c.loop-row.out.items
          c.share_row.new.out.items c.args.rows.now c.loop-row.row-index c.loop-row-test.true c.requires
          c.loop-row.invariant.laid c.in_ok-share_row.ensures.ok;
      room = room_more old.ledger c.loop-row.table.ledger c.share_row.new.table.ledger c.loop-row.invariant.room
          c.share_row.ensures.room;
    }

pub returns-clause-ok : goal.returns-clause-ok
returns-clause-ok c = share_end c.args.table.now c.loop-row.table c.args.out.now.items c.loop-row.out.items
    c.args.rows.now c.loop-row.row-index c.loop-row-test.false c.loop-row.invariant.laid

pub returns-clause-room : goal.returns-clause-room
returns-clause-room c = c.loop-row.invariant.room
