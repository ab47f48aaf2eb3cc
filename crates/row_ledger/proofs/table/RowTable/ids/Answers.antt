-- The row at its place.
use Rattle.std.proofs.Common.{◌≡◌, ◌<◌, ◌∙◌, [], length, sym, ap, subst, arith}
use Rattle.std.proofs.lemmas.List.{get_or_read}
use Rattle.row_ledger.specs.declared.row.Row.{Row}
use Rattle.row_ledger.specs.Rows.{TableState, ids_at}
use Rattle.row_ledger.proofs.Moves.{ids_beyond, ids_read}
use Rattle.row_ledger.proofs.table.RowTable.ids.Goals as goal

pub returns-then-row-len : goal.returns-then-row-len
returns-then-row-len c =
    let rows = c.self.inside.rows.items in
    let none : ids_at rows c.args.row ≡ [] = ids_beyond rows c.args.row (omega (arith, c.self.inside.rows.ok.0)) in
    subst (λ (s : TableState). [] ≡ ids_at s.rows c.args.row) c.self.view_is (sym none)

pub returns : goal.returns
returns c =
    let rows = c.self.inside.rows.items in
    let k = c.args.row in
    let read = c.index.result.now in
    let within : k < length rows = omega (arith, c.self.inside.rows.ok.0) in
    let same : c.as_slice.result.now ≡ ids_at rows k =
    c.as_slice.ensures.value
    ∙ ap (λ (r : Row). r.ids.items) (get_or_read rows k read within c.index.ensures read)
    ∙ sym (ids_read rows k read within) in
    subst (λ (s : TableState). c.as_slice.result.now ≡ ids_at s.rows k) c.self.view_is same
