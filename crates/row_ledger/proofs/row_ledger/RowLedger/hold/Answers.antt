-- The table holds the id.
use Rattle.std.proofs.Common.{◌≡◌, ◌⊎◌, ◌+◌, ◌^◌, ◌<◌, ◌≤◌, ◌∷◌, [], ℕ, Some, sym, subst}
use Rattle.std.specs.Prelude.{IsSome}
use Rattle.block_ledger.specs.{Counts.SetsCount, Counts.occurrences, Counts.times, Entries.places}
use Rattle.row_ledger.specs.Rows.{counts, singles}
use Rattle.row_ledger.specs.Lists.{RowsState, counts_of, singles_of, spare_of, places_of, list_of, listed}
use Rattle.row_ledger.proofs.{Changes.rows_stay, Changes.lists_stay}
use Rattle.row_ledger.proofs.Singles.{fresh_more}
use Rattle.row_ledger.proofs.row_ledger.RowLedger.hold.Goals as goal

pub hold-requires-clause-room : goal.hold-requires-clause-room
hold-requires-clause-room c = subst (λ (s : RowsState). IsSome (counts_of s c.args.id) ⊎ (0 < spare_of s))
    (sym c.self.view_is) c.requires.room

pub hold-requires-clause-few : goal.hold-requires-clause-few
hold-requires-clause-few c = subst (λ (s : RowsState). occurrences (counts_of s c.args.id) + 1 < 2 ^ 128)
    (sym c.self.view_is) c.requires.few

pub invariant_of-self : goal.invariant_of-self
invariant_of-self c = rows_stay c.self.inside.table c.hold.new.self c.self.inside.lists.items c.self.invariant
    c.hold.ensures.rows

pub returns-clause-lists : goal.returns-clause-lists
returns-clause-lists c =
    let ls = c.self.inside.lists.items in
    subst (λ (s : RowsState). (n : ℕ) → listed c.hold.new.self.rows ls n ≡ list_of s n) c.self.view_is
    (lists_stay c.self.inside.table c.hold.new.self ls c.hold.ensures.rows)

pub returns-clause-counts : goal.returns-clause-counts
returns-clause-counts c = subst (λ (s : RowsState). SetsCount (counts_of s) (counts c.hold.new.self) c.args.id
    (Some (occurrences (counts_of s c.args.id) + 1))) c.self.view_is
    c.hold.ensures.counts

pub returns-clause-singles : goal.returns-clause-singles
returns-clause-singles c = subst (λ (s : RowsState). (other : ℕ) → singles c.hold.new.self other
    ≡ singles_of s other + times other (c.args.id ∷ [])) c.self.view_is
    c.hold.ensures.singles

pub returns-clause-spare : goal.returns-clause-spare
returns-clause-spare c = subst (λ (s : RowsState). spare_of s ≤ c.hold.new.self.ledger.spare + 1) c.self.view_is
    c.hold.ensures.spare

pub returns-clause-there : goal.returns-clause-there
returns-clause-there c = subst (λ (s : RowsState). IsSome (counts_of s c.args.id)
    → c.hold.new.self.ledger.spare ≡ spare_of s) c.self.view_is
    c.hold.ensures.there

pub returns-clause-places : goal.returns-clause-places
returns-clause-places c = subst (λ (s : RowsState). places c.hold.new.self.ledger ≡ places_of s) c.self.view_is
    c.hold.ensures.places

pub returns-clause-fresh : goal.returns-clause-fresh
returns-clause-fresh c = λ ids fresh. fresh_more (counts_of c.args.self.now) (counts c.hold.new.self) ids c.args.id
    (returns-clause-counts c) fresh
