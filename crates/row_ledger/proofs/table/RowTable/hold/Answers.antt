-- The ledger holds the id.
use Rattle.std.proofs.Common.{◌≡◌, ◌⊎◌, ◌+◌, ◌^◌, ◌<◌, ◌≤◌, ◌∷◌, [], ℕ, Some, ap, sym, subst}
use Rattle.std.specs.Prelude.{IsSome}
use Rattle.block_ledger.specs.{Counts.SetsCount, Counts.occurrences, Counts.times, Entries.places}
use Rattle.row_ledger.specs.Rows.{TableState, counts, singles}
use Rattle.row_ledger.proofs.{Sums.there_same, Singles.over, Singles.room_for}
use Rattle.row_ledger.proofs.Singles.{held_table, held_counts, held_singles}
use Rattle.row_ledger.proofs.table.RowTable.hold.Goals as goal

pub hold-requires : goal.hold-requires
hold-requires c =
    let t : TableState = record { ledger = c.self.inside.ledger; rows = c.self.inside.rows.items } in
    room_for t c.args.id
    (subst (λ (s : TableState). IsSome (counts s c.args.id) ⊎ (0 < s.ledger.spare)) (sym c.self.view_is) c.requires.room)

pub invariant_of-self : goal.invariant_of-self
invariant_of-self c =
    let t : TableState = record { ledger = c.self.inside.ledger; rows = c.self.inside.rows.items } in
    let few = subst (λ (s : TableState). occurrences (counts s c.args.id) + 1 < 2 ^ 128) (sym c.self.view_is)
    c.requires.few in
    held_table t c.hold.new.self c.args.id c.self.invariant c.hold.ensures.counts few

pub returns-clause-counts : goal.returns-clause-counts
returns-clause-counts c =
    let t : TableState = record { ledger = c.self.inside.ledger; rows = c.self.inside.rows.items } in
    let few = subst (λ (s : TableState). occurrences (counts s c.args.id) + 1 < 2 ^ 128) (sym c.self.view_is)
    c.requires.few in
    subst (λ (s : TableState). SetsCount (counts s) (counts (over c.hold.new.self t.rows)) c.args.id
    (Some (occurrences (counts s c.args.id) + 1))) c.self.view_is
    (held_counts t c.hold.new.self c.args.id c.self.invariant c.hold.ensures.counts few)

pub returns-clause-singles : goal.returns-clause-singles
returns-clause-singles c =
    let t : TableState = record { ledger = c.self.inside.ledger; rows = c.self.inside.rows.items } in
    let few = subst (λ (s : TableState). occurrences (counts s c.args.id) + 1 < 2 ^ 128) (sym c.self.view_is)
    c.requires.few in
    subst (λ (s : TableState). (other : ℕ) → singles (over c.hold.new.self t.rows) other
    ≡ singles s other + times other (c.args.id ∷ [])) c.self.view_is
    (held_singles t c.hold.new.self c.args.id c.self.invariant c.hold.ensures.counts few)

pub returns-clause-rows : goal.returns-clause-rows
returns-clause-rows c = ap (λ (s : TableState). s.rows) c.self.view_is

pub returns-clause-spare : goal.returns-clause-spare
returns-clause-spare c =
    subst (λ (s : TableState). s.ledger.spare ≤ c.hold.new.self.spare + 1) c.self.view_is c.hold.ensures.spare

pub returns-clause-there : goal.returns-clause-there
returns-clause-there c =
    let t : TableState = record { ledger = c.self.inside.ledger; rows = c.self.inside.rows.items } in
    subst (λ (s : TableState). IsSome (counts s c.args.id) → c.hold.new.self.spare ≡ s.ledger.spare) c.self.view_is
    (λ some. c.hold.ensures.there ((there_same t c.args.id).0 some))

pub returns-clause-places : goal.returns-clause-places
returns-clause-places c =
    subst (λ (s : TableState). places c.hold.new.self ≡ places s.ledger) c.self.view_is c.hold.ensures.places
