-- The table makes room.
use Rattle.std.proofs.Common.{◌≡◌, ◌<◌, ◌≤◌, ℕ, subst}
use Rattle.std.specs.Prelude.{OnOk, OnErr}
use Rattle.block_ledger.specs.{Entries.places}
use Rattle.row_ledger.specs.Rows.{counts, singles}
use Rattle.row_ledger.specs.Lists.{RowsState, counts_of, singles_of, spare_of, places_of, HasPlaces, list_of, listed}
use Rattle.row_ledger.proofs.{Changes.rows_stay, Changes.lists_stay}
use Rattle.row_ledger.proofs.Changes.{follows_ids}
use Rattle.row_ledger.proofs.row_ledger.RowLedger.reserve.Goals as goal

pub invariant_of-self : goal.invariant_of-self
invariant_of-self c = rows_stay c.self.inside.table c.reserve.new.self c.self.inside.lists.items c.self.invariant
    c.reserve.ensures.rows

pub returns-clause-lists : goal.returns-clause-lists
returns-clause-lists c =
    let ls = c.self.inside.lists.items in
    subst (λ (s : RowsState). (n : ℕ) → listed c.reserve.new.self.rows ls n ≡ list_of s n) c.self.view_is
    (lists_stay c.self.inside.table c.reserve.new.self ls c.reserve.ensures.rows)

pub returns-clause-counts : goal.returns-clause-counts
returns-clause-counts c = subst (λ (s : RowsState). (id : ℕ) → counts c.reserve.new.self id ≡ counts_of s id) c.self.view_is
    c.reserve.ensures.counts

pub returns-clause-singles : goal.returns-clause-singles
returns-clause-singles c = subst (λ (s : RowsState). (id : ℕ) → singles c.reserve.new.self id ≡ singles_of s id) c.self.view_is
    c.reserve.ensures.singles

pub returns-clause-full : goal.returns-clause-full
returns-clause-full c = subst (λ (s : RowsState). OnErr c.reserve.result (spare_of s < c.args.count)) c.self.view_is
    c.reserve.ensures.full

pub returns-clause-spare : goal.returns-clause-spare
returns-clause-spare c = subst (λ (s : RowsState). spare_of s ≤ c.reserve.new.self.ledger.spare) c.self.view_is
    c.reserve.ensures.spare

pub returns-clause-places : goal.returns-clause-places
returns-clause-places c = subst (λ (s : RowsState). OnOk c.reserve.result
    (spare_of s < c.args.count → HasPlaces c.args.count
    (record { table = c.reserve.new.self; lists = c.self.inside.lists.items }))) c.self.view_is
    (follows_ids c.reserve.result c.reserve.new.self c.self.inside.lists.items c.self.inside.table.ledger.spare
    c.args.count c.reserve.ensures.places)

pub returns-clause-enough : goal.returns-clause-enough
returns-clause-enough c = subst (λ (s : RowsState). c.args.count ≤ spare_of s → places c.reserve.new.self.ledger ≡ places_of s) c.self.view_is
    c.reserve.ensures.enough

pub returns-clause-same : goal.returns-clause-same
returns-clause-same c = subst (λ (s : RowsState). OnErr c.reserve.result (places c.reserve.new.self.ledger ≡ places_of s)) c.self.view_is
    c.reserve.ensures.same
