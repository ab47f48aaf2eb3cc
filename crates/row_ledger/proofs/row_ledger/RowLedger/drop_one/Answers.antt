-- The table drops the id.
use Rattle.std.proofs.Common.{◌≡◌, ◌+◌, ◌-◌, ◌<◌, ◌∷◌, [], ℕ, Some, sym, subst}
use Rattle.block_ledger.specs.{Counts.SetsCount, Counts.occurrences, Counts.times, Entries.places}
use Rattle.row_ledger.specs.Rows.{counts, singles}
use Rattle.row_ledger.specs.Lists.{RowsState, counts_of, singles_of, spare_of, places_of, list_of, listed}
use Rattle.row_ledger.proofs.{Changes.rows_stay, Changes.lists_stay}
use Rattle.row_ledger.proofs.Singles.{fresh_less}
use Rattle.row_ledger.proofs.row_ledger.RowLedger.drop_one.Goals as goal

pub drop_one-requires : goal.drop_one-requires
drop_one-requires c = subst (λ (s : RowsState). 0 < singles_of s c.args.id) (sym c.self.view_is) c.requires

pub invariant_of-self : goal.invariant_of-self
invariant_of-self c = rows_stay c.self.inside.table c.drop_one.new.self c.self.inside.lists.items c.self.invariant
    c.drop_one.ensures.rows

pub returns-clause-lists : goal.returns-clause-lists
returns-clause-lists c =
    let ls = c.self.inside.lists.items in
    subst (λ (s : RowsState). (n : ℕ) → listed c.drop_one.new.self.rows ls n ≡ list_of s n) c.self.view_is
    (lists_stay c.self.inside.table c.drop_one.new.self ls c.drop_one.ensures.rows)

pub returns-clause-counts : goal.returns-clause-counts
returns-clause-counts c = subst (λ (s : RowsState). SetsCount (counts_of s) (counts c.drop_one.new.self) c.args.id
    (Some (occurrences (counts_of s c.args.id) - 1))) c.self.view_is
    c.drop_one.ensures.counts

pub returns-clause-singles : goal.returns-clause-singles
returns-clause-singles c = subst (λ (s : RowsState). (other : ℕ) → singles c.drop_one.new.self other
    + times other (c.args.id ∷ []) ≡ singles_of s other) c.self.view_is
    c.drop_one.ensures.singles

pub returns-clause-spare : goal.returns-clause-spare
returns-clause-spare c = subst (λ (s : RowsState). c.drop_one.new.self.ledger.spare ≡ spare_of s) c.self.view_is
    c.drop_one.ensures.room.same_spare

pub returns-clause-places : goal.returns-clause-places
returns-clause-places c = subst (λ (s : RowsState). places c.drop_one.new.self.ledger ≡ places_of s) c.self.view_is
    c.drop_one.ensures.room.same_places

pub returns-clause-fresh : goal.returns-clause-fresh
returns-clause-fresh c = λ ids fresh. fresh_less (counts_of c.args.self.now) (counts c.drop_one.new.self) ids c.args.id
    (returns-clause-counts c) fresh
