-- The ledger takes the id out.
use Rattle.std.proofs.Common.{◌≡◌, ℕ, Some, None, ap, sym, subst}
use Rattle.block_ledger.specs.Counts.{SetsCount}
use Rattle.row_ledger.specs.Rows.{TableState, counts, singles}
use Rattle.row_ledger.proofs.{Room.room_is, Singles.over, Singles.free_ledger}
use Rattle.row_ledger.proofs.Singles.{forgotten_table, forgotten_counts, forgotten_singles}
use Rattle.row_ledger.proofs.table.RowTable.forget.Goals as goal

pub forget-requires : goal.forget-requires
forget-requires c =
    let t : TableState = record { ledger = c.self.inside.ledger; rows = c.self.inside.rows.items } in
    let free = subst (λ (s : TableState). counts s c.args.id ≡ Some 0) (sym c.self.view_is) c.requires in
    free_ledger t c.args.id c.self.invariant free

pub invariant_of-self : goal.invariant_of-self
invariant_of-self c =
    let t : TableState = record { ledger = c.self.inside.ledger; rows = c.self.inside.rows.items } in
    let free = subst (λ (s : TableState). counts s c.args.id ≡ Some 0) (sym c.self.view_is) c.requires in
    forgotten_table t c.forget.new.self c.args.id c.self.invariant c.forget.ensures.counts free

pub returns-clause-counts : goal.returns-clause-counts
returns-clause-counts c =
    let t : TableState = record { ledger = c.self.inside.ledger; rows = c.self.inside.rows.items } in
    subst (λ (s : TableState). SetsCount (counts s) (counts (over c.forget.new.self t.rows)) c.args.id None)
    c.self.view_is (forgotten_counts t c.forget.new.self c.args.id c.forget.ensures.counts)

pub returns-clause-singles : goal.returns-clause-singles
returns-clause-singles c =
    let t : TableState = record { ledger = c.self.inside.ledger; rows = c.self.inside.rows.items } in
    let free = subst (λ (s : TableState). counts s c.args.id ≡ Some 0) (sym c.self.view_is) c.requires in
    subst (λ (s : TableState). (other : ℕ) → singles (over c.forget.new.self t.rows) other ≡ singles s other)
    c.self.view_is
    (forgotten_singles t c.forget.new.self c.args.id c.self.invariant c.forget.ensures.counts free)

pub returns-clause-rows : goal.returns-clause-rows
returns-clause-rows c = ap (λ (s : TableState). s.rows) c.self.view_is

pub returns-clause-room : goal.returns-clause-room
returns-clause-room c = room_is c.self.inside.ledger c.args.self.now.ledger c.forget.new.self
    (ap (λ (s : TableState). s.ledger) c.self.view_is)
    (record { same_spare = c.forget.ensures.spare; same_places = c.forget.ensures.places })
