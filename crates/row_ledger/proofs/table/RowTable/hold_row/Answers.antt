-- The row is had once more.
use Rattle.std.proofs.Common.{◌≡◌, ◌+◌, ◌∙◌, ◌<◌, ◌∷◌, [], ℕ, set, refl, sym, ap, subst, arith}
use Rattle.std.proofs.lemmas.List.{get_or_read}
use Rattle.row_ledger.specs.declared.row.Row.{Row}
use Rattle.row_ledger.specs.Rows.{TableState, Comes, ids_at, uses_at}
use Rattle.row_ledger.proofs.Moves.{used_within, ids_read, uses_read, uses_set, at_set, ids_same, table_uses}
use Rattle.row_ledger.proofs.Turns.{comes_of, more_use}
use Rattle.row_ledger.proofs.table.RowTable.hold_row.Goals as goal

pub index-requires : goal.index-requires
index-requires c =
    let used = subst (λ (t : TableState). 0 < uses_at t.rows c.args.row) (sym c.self.view_is) c.requires in
    omega (arith, used_within c.self.inside.rows.items c.args.row used, c.self.inside.rows.ok.0)

pub index_mut-requires : goal.index_mut-requires
index_mut-requires c =
    let used = subst (λ (t : TableState). 0 < uses_at t.rows c.args.row) (sym c.self.view_is) c.requires in
    omega (arith, used_within c.self.inside.rows.items c.args.row used, c.self.inside.rows.ok.0)

pub invariant_of-self : goal.invariant_of-self
invariant_of-self c =
    let rows = c.self.inside.rows.items in
    let k = c.args.row in
    let used = subst (λ (t : TableState). 0 < uses_at t.rows k) (sym c.self.view_is) c.requires in
    let within = used_within rows k used in
    let here = c.index_mut.result.now in
    let ids : here.ids.items ≡ ids_at rows k =
    ap (λ (r : Row). r.ids.items) (get_or_read rows k here within c.index_mut.ensures.value here)
    ∙ sym (ids_read rows k here within) in
    table_uses (record { ledger = c.self.inside.ledger; rows = rows }) k
    (record { ids = here.ids; uses = c.index.result.now.uses + 1; next = here.next })
    c.self.invariant within ids (omega arith)

pub returns-clause-ok : goal.returns-clause-ok
returns-clause-ok c =
    let rows = c.self.inside.rows.items in
    let k = c.args.row in
    let used = subst (λ (t : TableState). 0 < uses_at t.rows k) (sym c.self.view_is) c.requires in
    let within = used_within rows k used in
    let here = c.index_mut.result.now in
    let read = c.index.result.now in
    let ids : here.ids.items ≡ ids_at rows k =
    ap (λ (r : Row). r.ids.items) (get_or_read rows k here within c.index_mut.ensures.value here)
    ∙ sym (ids_read rows k here within) in
    let uses : read.uses ≡ uses_at rows k =
    ap (λ (r : Row). r.uses) (get_or_read rows k read within c.index.ensures here)
    ∙ sym (uses_read rows k here within) in
    let new : Row = record { ids = here.ids; uses = read.uses + 1; next = here.next } in
    let was : TableState = record { ledger = c.self.inside.ledger; rows = rows } in
    let is : TableState = record { ledger = c.self.inside.ledger; rows = set rows k new } in
    let more = more_use was is k c.self.invariant (at_set rows k new within) (ids_same rows k new within ids)
    (uses_set rows k new within ∙ ap (λ (u : ℕ). u + 1) uses) (λ id. refl) in
    subst (λ (t : TableState). Comes t is (k ∷ [])) c.self.view_is
    (comes_of was is k c.self.invariant (invariant_of-self c) more)
