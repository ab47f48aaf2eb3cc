-- A free place, or one more.
use Rattle.std.proofs.Common.{◌≡◌, ◌<◌, ◌∷◌, [], ◌++◌, ◌∙◌, List, length, refl, sym, ap, subst, arith}
use Rattle.std.proofs.lemmas.List.{get_or_read}
use Rattle.row_ledger.specs.declared.row.Row.{Row}
use Rattle.row_ledger.specs.Rows.{TableState, IsTable, Comes, uses_at}
use Rattle.row_ledger.proofs.{Moves.uses_read, Pushed.is_pushed, Pushed.comes_pushed, Pushed.uses_end}
use Rattle.row_ledger.proofs.{Singles.over, Turns.comes_none}
use Rattle.row_ledger.proofs.table.RowTable.place.Goals as goal

pub returns-then-index-eq0-clause-free : goal.returns-then-index-eq0-clause-free
returns-then-index-eq0-clause-free c =
    let rows = c.self.inside.rows.items in
    let k = c.self.inside.free in
    let read = c.index.result.now in
    let within : k < length rows = omega (arith, c.self.inside.rows.ok.0) in
    let uses : read.uses ≡ uses_at rows k =
    ap (λ (r : Row). r.uses) (get_or_read rows k read within c.index.ensures read)
    ∙ sym (uses_read rows k read within) in
    omega (arith, uses)

pub returns-then-index-eq0-clause-same : goal.returns-then-index-eq0-clause-same
returns-then-index-eq0-clause-same c =
    let t : TableState = record { ledger = c.self.inside.ledger; rows = c.self.inside.rows.items } in
    subst (λ (s : TableState). Comes s t []) c.self.view_is (comes_none t)

pub invariant_of-self-2 : goal.invariant_of-self-2
invariant_of-self-2 c =
    let t : TableState = record { ledger = c.self.inside.ledger; rows = c.self.inside.rows.items } in
    let row : Row = record { ids = c.new.result; uses = 0; next = 18446744073709551615 } in
    subst (λ (rows : List Row). IsTable (over t.ledger rows)) (sym c.in_ok-push.ensures.items)
    (is_pushed t row c.self.invariant c.new.ensures.items)

pub returns-in_err-push-clause-same : goal.returns-in_err-push-clause-same
returns-in_err-push-clause-same c =
    let t : TableState = record { ledger = c.self.inside.ledger; rows = c.self.inside.rows.items } in
    subst (λ (s : TableState). Comes s (over t.ledger c.push.new.self.items) []) c.self.view_is
    (subst (λ (rows : List Row). Comes t (over t.ledger rows) []) (sym c.in_err-push.ensures.items) (comes_none t))

pub returns-clause-free : goal.returns-clause-free
returns-clause-free c =
    let t : TableState = record { ledger = c.self.inside.ledger; rows = c.self.inside.rows.items } in
    let row : Row = record { ids = c.new.result; uses = 0; next = 18446744073709551615 } in
    let end : c.len-place.result ≡ length t.rows = omega (arith, c.self.inside.rows.ok.0) in
    ap (λ (rows : List Row). uses_at rows c.len-place.result) c.in_ok-push.ensures.items
    ∙ ap (uses_at (t.rows ++ row ∷ [])) end
    ∙ uses_end t.rows row

pub returns-clause-same : goal.returns-clause-same
returns-clause-same c =
    let t : TableState = record { ledger = c.self.inside.ledger; rows = c.self.inside.rows.items } in
    let row : Row = record { ids = c.new.result; uses = 0; next = 18446744073709551615 } in
    subst (λ (s : TableState). Comes s (over t.ledger c.push.new.self.items) []) c.self.view_is
    (subst (λ (rows : List Row). Comes t (over t.ledger rows) []) (sym c.in_ok-push.ensures.items)
    (comes_pushed t row c.self.invariant c.new.ensures.items refl))
