-- The row is added, and kept.
use Rattle.std.proofs.Common.{[], refl, arith}
use Rattle.row_ledger.specs.Rows.{Adds}
use Rattle.row_ledger.proofs.{Comings.any_err, Comings.adds_same, Comings.kept_ok, Comings.kept_err, Room.room_more, Turns.times_here}
use Rattle.row_ledger.proofs.laying.lay_row.Goals as goal

pub returns-in_err-row-clause-err : goal.returns-in_err-row-clause-err
returns-in_err-row-clause-err c =
    let old = c.args.table.now in
    let out = c.args.out.now.items in
    any_err c.from_residual.result (Adds old c.add_row.new.self out out)
    (adds_same old c.add_row.new.self out c.in_err-row.ensures.err)

pub returns-in_err-row-clause-room : goal.returns-in_err-row-clause-room
returns-in_err-row-clause-room c = c.add_row.ensures.room

pub keep-requires : goal.keep-requires
keep-requires c =
    let row = c.in_ok-row.row in
    omega (arith, c.in_ok-row.ensures.ok.uses row, times_here row row [] refl)

pub returns-clause-ok : goal.returns-clause-ok
returns-clause-ok c = kept_ok c.keep.result c.args.table.now c.add_row.new.self c.keep.new.table
    c.args.out.now.items c.keep.new.out.items c.in_ok-row.row c.args.ids.now c.in_ok-row.ensures.ok
    c.in_ok-row.ensures.ids c.keep.ensures.ok

pub returns-clause-err : goal.returns-clause-err
returns-clause-err c = kept_err c.keep.result c.args.table.now c.add_row.new.self c.keep.new.table
    c.args.out.now.items c.keep.new.out.items c.in_ok-row.row c.in_ok-row.ensures.ok c.keep.ensures.err

pub returns-clause-room : goal.returns-clause-room
returns-clause-room c = room_more c.args.table.now.ledger c.add_row.new.self.ledger c.keep.new.table.ledger
    c.add_row.ensures.room c.keep.ensures.room
