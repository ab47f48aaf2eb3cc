-- The ledger drops the id.
use Rattle.std.proofs.Common.{◌≡◌, ◌+◌, ◌-◌, ◌<◌, ◌∷◌, [], ℕ, Some, ap, sym, subst}
use Rattle.block_ledger.specs.Counts.{SetsCount, occurrences, times}
use Rattle.row_ledger.specs.Rows.{TableState, counts, singles}
use Rattle.row_ledger.proofs.{Room.room_is, Singles.over, Singles.single_named}
use Rattle.row_ledger.proofs.Singles.{dropped_table, dropped_counts, dropped_singles}
use Rattle.row_ledger.proofs.table.RowTable.drop_one.Goals as goal

pub drop_one-requires : goal.drop_one-requires
drop_one-requires c =
    let t : TableState = record { ledger = c.self.inside.ledger; rows = c.self.inside.rows.items } in
    let some = subst (λ (s : TableState). 0 < singles s c.args.id) (sym c.self.view_is) c.requires in
    single_named t c.args.id some

pub invariant_of-self : goal.invariant_of-self
invariant_of-self c =
    let t : TableState = record { ledger = c.self.inside.ledger; rows = c.self.inside.rows.items } in
    let some = subst (λ (s : TableState). 0 < singles s c.args.id) (sym c.self.view_is) c.requires in
    dropped_table t c.drop_one.new.self c.args.id c.self.invariant c.drop_one.ensures.counts some

pub returns-clause-counts : goal.returns-clause-counts
returns-clause-counts c =
    let t : TableState = record { ledger = c.self.inside.ledger; rows = c.self.inside.rows.items } in
    let some = subst (λ (s : TableState). 0 < singles s c.args.id) (sym c.self.view_is) c.requires in
    subst (λ (s : TableState). SetsCount (counts s) (counts (over c.drop_one.new.self t.rows)) c.args.id
    (Some (occurrences (counts s c.args.id) - 1))) c.self.view_is
    (dropped_counts t c.drop_one.new.self c.args.id c.self.invariant c.drop_one.ensures.counts some)

pub returns-clause-singles : goal.returns-clause-singles
returns-clause-singles c =
    let t : TableState = record { ledger = c.self.inside.ledger; rows = c.self.inside.rows.items } in
    let some = subst (λ (s : TableState). 0 < singles s c.args.id) (sym c.self.view_is) c.requires in
    subst (λ (s : TableState). (other : ℕ) → singles (over c.drop_one.new.self t.rows) other
    + times other (c.args.id ∷ []) ≡ singles s other) c.self.view_is
    (dropped_singles t c.drop_one.new.self c.args.id c.self.invariant c.drop_one.ensures.counts some)

pub returns-clause-rows : goal.returns-clause-rows
returns-clause-rows c = ap (λ (s : TableState). s.rows) c.self.view_is

pub returns-clause-room : goal.returns-clause-room
returns-clause-room c = room_is c.self.inside.ledger c.args.self.now.ledger c.drop_one.new.self
    (ap (λ (s : TableState). s.ledger) c.self.view_is)
    (record { same_spare = c.drop_one.ensures.spare; same_places = c.drop_one.ensures.places })
