-- A place is taken, and the ids are written there.
use Rattle.std.proofs.Common.{◌∷◌, ◌∙◌, [], sym, ap, subst, arith}
use Rattle.block_ledger.specs.Counts.{times}
use Rattle.row_ledger.specs.Rows.{AreThere, Comes, counts}
use Rattle.row_ledger.proofs.{Comings.any_err, Room.room_none, Room.room_more, Turns.comes_none, Turns.comes_append}
use Rattle.row_ledger.proofs.table.RowTable.add_row.Goals as goal

pub returns-in_err-copy-clause-err : goal.returns-in_err-copy-clause-err
returns-in_err-copy-clause-err c =
    let t = c.args.self.now in
    any_err c.from_residual.result (Comes t t []) (comes_none t)

pub returns-in_err-copy-clause-room : goal.returns-in_err-copy-clause-room
returns-in_err-copy-clause-room c = room_none c.args.self.now.ledger

pub returns-in_err-place-clause-err : goal.returns-in_err-place-clause-err
returns-in_err-place-clause-err c =
    any_err c.from_residual-in_err-place.result (Comes c.args.self.now c.place.new.self []) c.place.ensures.same

pub returns-in_err-place-clause-room : goal.returns-in_err-place-clause-room
returns-in_err-place-clause-room c = c.place.ensures.room

pub write-requires-clause-within : goal.write-requires-clause-within
write-requires-clause-within c = c.in_ok-place.ensures.within

pub write-requires-clause-free : goal.write-requires-clause-free
write-requires-clause-free c = c.in_ok-place.ensures.free

pub write-requires-clause-there : goal.write-requires-clause-there
write-requires-clause-there c = subst (AreThere (counts c.place.new.self)) (sym c.in_ok-copy.ensures.items)
    (λ id some. (c.place.ensures.same.held.there id).1 (c.requires.there id some))

pub write-requires-clause-few : goal.write-requires-clause-few
write-requires-clause-few c = λ id. omega (
  arith,
  c.requires.few id,
  c.place.ensures.same.held.counts id,
  ap (times id) c.in_ok-copy.ensures.items,
)

pub returns-clause-ok : goal.returns-clause-ok
returns-clause-ok c = comes_append c.args.self.now c.place.new.self c.write.new.self [] (c.in_ok-place.place ∷ [])
    c.place.ensures.same c.write.ensures.come

pub returns-clause-ids : goal.returns-clause-ids
returns-clause-ids c = c.write.ensures.ids ∙ c.in_ok-copy.ensures.items

pub returns-clause-room : goal.returns-clause-room
returns-clause-room c = room_more c.args.self.now.ledger c.place.new.self.ledger c.write.new.self.ledger
    c.place.ensures.room c.write.ensures.room
