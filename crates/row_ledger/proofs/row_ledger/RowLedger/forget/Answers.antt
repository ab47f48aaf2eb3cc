-- The table takes the id out.
use Rattle.std.proofs.Common.{◌≡◌, ℕ, Some, None, sym, subst}
use Rattle.block_ledger.specs.{Counts.SetsCount, Entries.places}
use Rattle.row_ledger.specs.Rows.{counts, singles}
use Rattle.row_ledger.specs.Lists.{RowsState, counts_of, singles_of, spare_of, places_of, list_of, listed}
use Rattle.row_ledger.proofs.{Changes.rows_stay, Changes.lists_stay}
use Rattle.row_ledger.proofs.Singles.{fresh_without}
use Rattle.row_ledger.proofs.row_ledger.RowLedger.forget.Goals as goal

pub forget-requires : goal.forget-requires
forget-requires c = subst (λ (s : RowsState). counts_of s c.args.id ≡ Some 0) (sym c.self.view_is) c.requires

pub invariant_of-self : goal.invariant_of-self
invariant_of-self c = rows_stay c.self.inside.table c.forget.new.self c.self.inside.lists.items c.self.invariant
    c.forget.ensures.rows

pub returns-clause-lists : goal.returns-clause-lists
returns-clause-lists c =
    let ls = c.self.inside.lists.items in
    subst (λ (s : RowsState). (n : ℕ) → listed c.forget.new.self.rows ls n ≡ list_of s n) c.self.view_is
    (lists_stay c.self.inside.table c.forget.new.self ls c.forget.ensures.rows)

pub returns-clause-counts : goal.returns-clause-counts
returns-clause-counts c = subst (λ (s : RowsState). SetsCount (counts_of s) (counts c.forget.new.self) c.args.id None) c.self.view_is
    c.forget.ensures.counts

pub returns-clause-singles : goal.returns-clause-singles
returns-clause-singles c = subst (λ (s : RowsState). (other : ℕ) → singles c.forget.new.self other ≡ singles_of s other) c.self.view_is
    c.forget.ensures.singles

pub returns-clause-spare : goal.returns-clause-spare
returns-clause-spare c = subst (λ (s : RowsState). c.forget.new.self.ledger.spare ≡ spare_of s) c.self.view_is
    c.forget.ensures.room.same_spare

pub returns-clause-places : goal.returns-clause-places
returns-clause-places c = subst (λ (s : RowsState). places c.forget.new.self.ledger ≡ places_of s) c.self.view_is
    c.forget.ensures.room.same_places

pub returns-clause-fresh : goal.returns-clause-fresh
returns-clause-fresh c = λ ids fresh. fresh_without (counts_of c.args.self.now) (counts c.forget.new.self) ids c.args.id
    (returns-clause-counts c) c.requires fresh
