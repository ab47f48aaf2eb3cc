-- A list lets a row go.
use Rattle.std.proofs.Common.{◌≡◌, ◌-◌, ◌∙◌, ◌<◌, ◌∷◌, [], set, sym, ap, subst, arith}
use Rattle.std.proofs.lemmas.List.{get_or_read}
use Rattle.row_ledger.specs.declared.row.Row.{Row}
use Rattle.row_ledger.specs.Rows.{TableState, Comes, ids_at, uses_at}
use Rattle.row_ledger.proofs.Moves.{used_within, ids_read, uses_read, table_uses}
use Rattle.row_ledger.proofs.Written.{less_use}
use Rattle.row_ledger.proofs.table.RowTable.drop_row.Goals as goal

pub index-requires : goal.index-requires
index-requires c =
    let used = subst (λ (t : TableState). 0 < uses_at t.rows c.args.row) (sym c.self.view_is) c.requires in
    omega (arith, used_within c.self.inside.rows.items c.args.row used, c.self.inside.rows.ok.0)

pub index_mut-requires : goal.index_mut-requires
index_mut-requires c =
    let used = subst (λ (t : TableState). 0 < uses_at t.rows c.args.row) (sym c.self.view_is) c.requires in
    omega (arith, used_within c.self.inside.rows.items c.args.row used, c.self.inside.rows.ok.0)

pub invariant_of-self : goal.invariant_of-self
invariant_of-self c =
    let rows = c.self.inside.rows.items in
    let k = c.args.row in
    let used = subst (λ (t : TableState). 0 < uses_at t.rows k) (sym c.self.view_is) c.requires in
    let within = used_within rows k used in
    let here = c.index_mut.result.now in
    let ids : here.ids.items ≡ ids_at rows k =
    ap (λ (r : Row). r.ids.items) (get_or_read rows k here within c.index_mut.ensures.value here)
    ∙ sym (ids_read rows k here within) in
    table_uses (record { ledger = c.self.inside.ledger; rows = rows }) k
    (record { ids = here.ids; uses = c.index.result.now.uses - 1; next = here.next })
    c.self.invariant within ids (omega arith)

pub clear-requires : goal.clear-requires
clear-requires c =
    let rows = c.self.inside.rows.items in
    let k = c.args.row in
    let used = subst (λ (t : TableState). 0 < uses_at t.rows k) (sym c.self.view_is) c.requires in
    let within = used_within rows k used in
    let read = c.index.result.now in
    let uses : read.uses ≡ uses_at rows k =
    ap (λ (r : Row). r.uses) (get_or_read rows k read within c.index.ensures read)
    ∙ sym (uses_read rows k read within) in
    let one : uses_at rows k ≡ 1 = omega (arith, uses, used) in
    subst (λ (t : TableState). uses_at t.rows k ≡ 1) c.self.view_is one

pub returns-then-uses-gt1-clause-come : goal.returns-then-uses-gt1-clause-come
returns-then-uses-gt1-clause-come c =
    let rows = c.self.inside.rows.items in
    let k = c.args.row in
    let used = subst (λ (t : TableState). 0 < uses_at t.rows k) (sym c.self.view_is) c.requires in
    let within = used_within rows k used in
    let here = c.index_mut.result.now in
    let read = c.index.result.now in
    let ids : here.ids.items ≡ ids_at rows k =
    ap (λ (r : Row). r.ids.items) (get_or_read rows k here within c.index_mut.ensures.value here)
    ∙ sym (ids_read rows k here within) in
    let uses : read.uses ≡ uses_at rows k =
    ap (λ (r : Row). r.uses) (get_or_read rows k read within c.index.ensures read)
    ∙ sym (uses_read rows k read within) in
    let new : Row = record { ids = here.ids; uses = read.uses - 1; next = here.next } in
    let was : TableState = record { ledger = c.self.inside.ledger; rows = rows } in
    let is : TableState = record { ledger = c.self.inside.ledger; rows = set rows k new } in
    subst (λ (t : TableState). Comes is t (k ∷ [])) c.self.view_is
    (less_use was k new c.self.invariant within ids (omega arith) (omega (arith, uses)))
