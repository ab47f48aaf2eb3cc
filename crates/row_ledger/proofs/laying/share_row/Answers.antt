-- The row is held, and kept.
use Rattle.std.proofs.Common.{sym, subst, arith}
use Rattle.row_ledger.specs.Rows.{TableState, Adds, ids_at}
use Rattle.row_ledger.proofs.{Comings.any_err, Comings.adds_same, Comings.kept_ok, Comings.kept_err, Room.room_more, Turns.comes_none}
use Rattle.row_ledger.proofs.laying.share_row.Goals as goal

pub returns-in_err-hold_row-clause-err : goal.returns-in_err-hold_row-clause-err
returns-in_err-hold_row-clause-err c =
    let t = c.args.table.now in
    let out = c.args.out.now.items in
    any_err c.from_residual.result (Adds t c.hold_row.new.self out out)
    (subst (λ (s : TableState). Adds t s out out) (sym c.in_err-hold_row.ensures.err)
    (adds_same t t out (comes_none t)))

pub returns-in_err-hold_row-clause-room : goal.returns-in_err-hold_row-clause-room
returns-in_err-hold_row-clause-room c = c.hold_row.ensures.room

pub keep-requires : goal.keep-requires
keep-requires c = omega (arith, c.in_ok-hold_row.ensures.ok.uses c.args.row, c.requires)

pub returns-clause-ok : goal.returns-clause-ok
returns-clause-ok c =
    let row = c.args.row in
    kept_ok c.keep.result c.args.table.now c.hold_row.new.self c.keep.new.table c.args.out.now.items
    c.keep.new.out.items row (ids_at c.args.table.now.rows row) c.in_ok-hold_row.ensures.ok
    (c.in_ok-hold_row.ensures.ok.rows row c.requires) c.keep.ensures.ok

pub returns-clause-err : goal.returns-clause-err
returns-clause-err c = kept_err c.keep.result c.args.table.now c.hold_row.new.self c.keep.new.table
    c.args.out.now.items c.keep.new.out.items c.args.row c.in_ok-hold_row.ensures.ok c.keep.ensures.err

pub returns-clause-room : goal.returns-clause-room
returns-clause-room c = room_more c.args.table.now.ledger c.hold_row.new.self.ledger c.keep.new.table.ledger
    c.hold_row.ensures.room c.keep.ensures.room
