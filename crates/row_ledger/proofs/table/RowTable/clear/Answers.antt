-- The last list lets a row go.
use Rattle.std.proofs.Common.{◌≡◌, ◌∙◌, ◌∷◌, [], ℕ, List, set, refl, sym, ap, subst, arith}
use Rattle.std.proofs.lemmas.List.{get_or_read}
use Rattle.block_ledger.specs.{Counts.times, Entries.count_of}
use Rattle.row_ledger.specs.declared.row.Row.{Row}
use Rattle.row_ledger.specs.Rows.{TableState, Comes, Held, ids_at, uses_at}
use Rattle.row_ledger.proofs.Moves.{used_within, ids_read}
use Rattle.row_ledger.proofs.Written.{cleared, last_use, row_within}
use Rattle.row_ledger.proofs.table.RowTable.clear.Goals as goal

pub index-requires : goal.index-requires
index-requires c =
    let one = subst (λ (t : TableState). uses_at t.rows c.args.row ≡ 1) (sym c.self.view_is) c.requires in
    omega (arith, used_within c.self.inside.rows.items c.args.row (omega (arith, one)), c.self.inside.rows.ok.0)

pub drop_ids-requires : goal.drop_ids-requires
drop_ids-requires c = λ id.
    let rows = c.self.inside.rows.items in
    let k = c.args.row in
    let one = subst (λ (t : TableState). uses_at t.rows k ≡ 1) (sym c.self.view_is) c.requires in
    let within = used_within rows k (omega (arith, one)) in
    let read = c.index.result.now in
    let ids : c.as_slice.result.now ≡ ids_at rows k =
    c.as_slice.ensures.value
    ∙ ap (λ (r : Row). r.ids.items) (get_or_read rows k read within c.index.ensures read)
    ∙ sym (ids_read rows k read within) in
    omega (arith, ap (times id) ids, row_within id rows k, c.self.invariant.held id)

pub index_mut-requires : goal.index_mut-requires
index_mut-requires c =
    let one = subst (λ (t : TableState). uses_at t.rows c.args.row ≡ 1) (sym c.self.view_is) c.requires in
    omega (arith, used_within c.self.inside.rows.items c.args.row (omega (arith, one)), c.self.inside.rows.ok.0)

pub invariant_of-self : goal.invariant_of-self
invariant_of-self c =
    let rows = c.self.inside.rows.items in
    let k = c.args.row in
    let one = subst (λ (t : TableState). uses_at t.rows k ≡ 1) (sym c.self.view_is) c.requires in
    let within = used_within rows k (omega (arith, one)) in
    let read = c.index.result.now in
    let ids : c.as_slice.result.now ≡ ids_at rows k =
    c.as_slice.ensures.value
    ∙ ap (λ (r : Row). r.ids.items) (get_or_read rows k read within c.index.ensures read)
    ∙ sym (ids_read rows k read within) in
    let held = subst (λ (xs : List ℕ). Held (count_of c.drop_ids.new.ledger) (count_of c.self.inside.ledger) xs) ids
    c.drop_ids.ensures.held in
    cleared (record { ledger = c.self.inside.ledger; rows = rows }) c.drop_ids.new.ledger k
    (record { ids = c.new.result; uses = 0; next = c.self.inside.free })
    c.self.invariant within c.new.ensures.items held

pub returns-clause-come : goal.returns-clause-come
returns-clause-come c =
    let rows = c.self.inside.rows.items in
    let k = c.args.row in
    let one = subst (λ (t : TableState). uses_at t.rows k ≡ 1) (sym c.self.view_is) c.requires in
    let within = used_within rows k (omega (arith, one)) in
    let read = c.index.result.now in
    let ids : c.as_slice.result.now ≡ ids_at rows k =
    c.as_slice.ensures.value
    ∙ ap (λ (r : Row). r.ids.items) (get_or_read rows k read within c.index.ensures read)
    ∙ sym (ids_read rows k read within) in
    let held = subst (λ (xs : List ℕ). Held (count_of c.drop_ids.new.ledger) (count_of c.self.inside.ledger) xs) ids
    c.drop_ids.ensures.held in
    let new : Row = record { ids = c.new.result; uses = 0; next = c.self.inside.free } in
    let was : TableState = record { ledger = c.self.inside.ledger; rows = rows } in
    let is : TableState = record { ledger = c.drop_ids.new.ledger; rows = set rows k new } in
    subst (λ (t : TableState). Comes is t (k ∷ [])) c.self.view_is
    (last_use was c.drop_ids.new.ledger k new c.self.invariant within c.new.ensures.items refl one held)
