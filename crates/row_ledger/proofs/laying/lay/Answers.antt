-- The ids so far are laid.
use Rattle.std.proofs.Common.{◌≡◌, length, sym, arith}
use Rattle.std.proofs.lemmas.Bool.Decides.{nat_tests}
use Rattle.row_ledger.specs.Rows.{Adds}
use Rattle.row_ledger.proofs.{Room.room_more, Room.room_none}
use Rattle.row_ledger.proofs.Comings.{any_err, adds_more, laid_adds, laid_empty, laying_none, laying_more, laying_end}
use Rattle.row_ledger.proofs.Comings.{laying_there, laying_few}
use Rattle.row_ledger.proofs.laying.lay.Goals as goal

pub returns-then-is_empty-clause-ok : goal.returns-then-is_empty-clause-ok
returns-then-is_empty-clause-ok c =
    let none : length c.args.ids.now ≡ 0 = grind (arith, nat_tests) in
    laid_empty c.args.table.now c.args.out.now.items c.args.ids.now none

pub returns-then-is_empty-clause-room : goal.returns-then-is_empty-clause-room
returns-then-is_empty-clause-room c = room_none c.args.table.now.ledger

pub loop-rest-init : goal.loop-rest-init
loop-rest-init c = record {
  part = laying_none c.args.table.now c.args.out.now.items c.args.ids.now;
  room = room_none c.args.table.now.ledger;
}

pub lay_row-requires-clause-there : goal.lay_row-requires-clause-there
lay_row-requires-clause-there c = laying_there c.args.table.now c.loop-rest.table c.args.out.now.items
    c.loop-rest.out.items c.loop-rest.rest.now c.split_at.result.0.now c.split_at.result.1.now c.args.ids.now
    c.loop-rest.invariant.part (sym c.split_at.ensures.by_index.0) c.requires.there

pub lay_row-requires-clause-few : goal.lay_row-requires-clause-few
lay_row-requires-clause-few c = laying_few c.args.table.now c.loop-rest.table c.args.out.now.items
    c.loop-rest.out.items c.loop-rest.rest.now c.split_at.result.0.now c.split_at.result.1.now c.args.ids.now
    c.loop-rest.invariant.part (sym c.split_at.ensures.by_index.0) c.requires.few

pub returns-in_err-lay_row-clause-err : goal.returns-in_err-lay_row-clause-err
returns-in_err-lay_row-clause-err c =
    let old = c.args.table.now in
    let out = c.args.out.now.items in
    let part = c.loop-rest.invariant.part in
    any_err c.from_residual.result (Adds old c.lay_row.new.table out c.lay_row.new.out.items)
    (adds_more old c.loop-rest.table c.lay_row.new.table out c.loop-rest.out.items c.lay_row.new.out.items
    (laid_adds old c.loop-rest.table out c.loop-rest.out.items part.done part.laid) c.in_err-lay_row.ensures.err)

pub returns-in_err-lay_row-clause-room : goal.returns-in_err-lay_row-clause-room
returns-in_err-lay_row-clause-room c = room_more c.args.table.now.ledger c.loop-rest.table.ledger
    c.lay_row.new.table.ledger c.loop-rest.invariant.room c.lay_row.ensures.room

pub loop-rest-preserved : goal.loop-rest-preserved
loop-rest-preserved c = record {
  part = laying_more c.args.table.now c.loop-rest.table c.lay_row.new.table c.args.out.now.items
      c.loop-rest.out.items c.lay_row.new.out.items c.loop-rest.rest.now c.split_at.result.0.now
      c.split_at.result.1.now c.args.ids.now c.loop-rest.invariant.part (sym c.split_at.ensures.by_index.0)
      c.in_ok-lay_row.ensures.ok;
  room = room_more c.args.table.now.ledger c.loop-rest.table.ledger c.lay_row.new.table.ledger
      c.loop-rest.invariant.room c.lay_row.ensures.room;
}

pub returns-clause-ok : goal.returns-clause-ok
returns-clause-ok c =
    let none : length c.loop-rest.rest.now ≡ 0 = grind (arith, nat_tests) in
    laying_end c.args.table.now c.loop-rest.table c.args.out.now.items c.loop-rest.out.items c.loop-rest.rest.now
    c.args.ids.now c.loop-rest.invariant.part none

pub returns-clause-room : goal.returns-clause-room
returns-clause-room c = c.loop-rest.invariant.room
