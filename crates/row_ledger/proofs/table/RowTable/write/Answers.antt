-- The ledger has the ids of the new row.
use Rattle.std.proofs.Common.{◌≡◌, ◌+◌, ◌<◌, ◌^◌, ◌∷◌, [], ℕ, List, length, set, refl, sym, ap, subst, arith}
use Rattle.block_ledger.specs.{Counts.times, Counts.occurrences, Entries.count_of}
use Rattle.row_ledger.specs.declared.row.Row.{Row}
use Rattle.row_ledger.specs.Rows.{TableState, Comes, Held, AreThere, counts, uses_at}
use Rattle.row_ledger.proofs.{Sums.there_same, Sums.ledger_most, Moves.ids_set, Written.filled, Written.first_use}
use Rattle.row_ledger.proofs.table.RowTable.write.Goals as goal

pub hold_ids-requires-clause-there : goal.hold_ids-requires-clause-there
hold_ids-requires-clause-there c =
    let t : TableState = record { ledger = c.self.inside.ledger; rows = c.self.inside.rows.items } in
    let there = subst (λ (s : TableState). AreThere (counts s) c.args.ids.items) (sym c.self.view_is) c.requires.there in
    subst (AreThere (count_of t.ledger)) (sym c.as_slice.ensures.value) (λ id some. (there_same t id).0 (there id some))

pub hold_ids-requires-clause-few : goal.hold_ids-requires-clause-few
hold_ids-requires-clause-few c = λ id.
    let t : TableState = record { ledger = c.self.inside.ledger; rows = c.self.inside.rows.items } in
    let few = subst (λ (s : TableState). occurrences (counts s id) + times id c.args.ids.items < 2 ^ 128)
    (sym c.self.view_is) (c.requires.few id) in
    omega (arith, few, ledger_most t id c.self.invariant, ap (times id) c.as_slice.ensures.value)

pub index_mut-requires : goal.index_mut-requires
index_mut-requires c =
    let within = subst (λ (s : TableState). c.args.place < length s.rows) (sym c.self.view_is) c.requires.within in
    omega (arith, within, c.self.inside.rows.ok.0)

pub invariant_of-self : goal.invariant_of-self
invariant_of-self c =
    let t : TableState = record { ledger = c.self.inside.ledger; rows = c.self.inside.rows.items } in
    let within = subst (λ (s : TableState). c.args.place < length s.rows) (sym c.self.view_is) c.requires.within in
    let free = subst (λ (s : TableState). uses_at s.rows c.args.place ≡ 0) (sym c.self.view_is) c.requires.free in
    let held = subst (λ (xs : List ℕ). Held (count_of t.ledger) (count_of c.hold_ids.new.ledger) xs)
    c.as_slice.ensures.value c.hold_ids.ensures.held in
    filled t c.hold_ids.new.ledger c.args.place (record { ids = c.args.ids; uses = 1; next = 18446744073709551615 })
    c.self.invariant within free refl held

pub returns-clause-come : goal.returns-clause-come
returns-clause-come c =
    let t : TableState = record { ledger = c.self.inside.ledger; rows = c.self.inside.rows.items } in
    let row : Row = record { ids = c.args.ids; uses = 1; next = 18446744073709551615 } in
    let is : TableState = record { ledger = c.hold_ids.new.ledger; rows = set t.rows c.args.place row } in
    let within = subst (λ (s : TableState). c.args.place < length s.rows) (sym c.self.view_is) c.requires.within in
    let free = subst (λ (s : TableState). uses_at s.rows c.args.place ≡ 0) (sym c.self.view_is) c.requires.free in
    let held = subst (λ (xs : List ℕ). Held (count_of t.ledger) (count_of c.hold_ids.new.ledger) xs)
    c.as_slice.ensures.value c.hold_ids.ensures.held in
    subst (λ (s : TableState). Comes s is (c.args.place ∷ [])) c.self.view_is
    (first_use t c.hold_ids.new.ledger c.args.place row c.self.invariant within free refl held)

pub returns-clause-ids : goal.returns-clause-ids
returns-clause-ids c =
    let rows = c.self.inside.rows.items in
    let within = subst (λ (s : TableState). c.args.place < length s.rows) (sym c.self.view_is) c.requires.within in
    ids_set rows c.args.place (record { ids = c.args.ids; uses = 1; next = 18446744073709551615 }) within
