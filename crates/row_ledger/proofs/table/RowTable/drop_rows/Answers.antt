-- The rows so far are dropped.
use Rattle.std.proofs.Common.{◌∷◌, [], ℕ, List, sym, subst, take, get_or}
use Rattle.std.proofs.lemmas.List.{take_more}
use Rattle.row_ledger.specs.Rows.{Comes}
use Rattle.row_ledger.proofs.{Helds.next_used, Turns.comes_joined}
use Rattle.row_ledger.proofs.Room.{room_more}
use Rattle.row_ledger.proofs.table.RowTable.drop_rows.Goals as goal

pub drop_row-requires : goal.drop_row-requires
drop_row-requires c = next_used c.args.self.now c.loop-row.self c.args.rows.now c.loop-row.row-index
    c.loop-row-test.true c.requires c.loop-row.invariant.come

pub loop-row-preserved : goal.loop-row-preserved
loop-row-preserved c =
    let rows = c.args.rows.now in
    let i = c.loop-row.row-index in
    record {
      come = subst (λ (xs : List ℕ). Comes c.drop_row.new.self c.args.self.now xs)
          (sym (take_more rows i 0 c.loop-row-test.true))
          (comes_joined c.drop_row.new.self c.loop-row.self c.args.self.now (get_or rows i 0 ∷ []) (take i rows)
          c.drop_row.ensures.come c.loop-row.invariant.come);
      room = room_more c.args.self.now.ledger c.loop-row.self.ledger c.drop_row.new.self.ledger
          c.loop-row.invariant.room c.drop_row.ensures.room;
    }
