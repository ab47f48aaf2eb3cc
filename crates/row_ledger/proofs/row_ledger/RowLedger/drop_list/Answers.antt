-- The list at its place goes, with its rows.
use Rattle.std.proofs.Common.{◌≡◌, ◌∙◌, ℕ, List, Some, sym, ap, subst}
use Rattle.row_ledger.specs.declared.row.Listed.{Listed}
use Rattle.row_ledger.specs.Rows.{AreHad, Comes, counts}
use Rattle.std.specs.List.{remove}
use Rattle.row_ledger.specs.Lists.{RowsState, IsAt, IsRows, counts_of, list_of, listed, ListGoes}
use Rattle.row_ledger.proofs.Changes.{Kept, fresh_dropped, goes, goes_rows, placed_had}
use Rattle.row_ledger.proofs.{Numbers.IsPlaced, Numbers.placed, Searches.number_at_is}
use Rattle.row_ledger.proofs.row_ledger.RowLedger.drop_list.Goals as goal

pub drop_rows-requires : goal.drop_rows-requires
drop_rows-requires g c =
    let ls = c.self.inside.lists.items in
    let i = c.in-Ok.place in
    let l = c.remove-list.result in
    let here = subst (λ (s : RowsState). IsAt s.lists c.args.number i) (sym c.self.view_is) c.in-Ok.ensures.found in
    let at : IsPlaced ls i l = subst (IsPlaced ls i) (sym c.remove-list.ensures.value) (placed ls i l here.within) in
    subst (λ (xs : List ℕ). AreHad c.self.inside.table.rows xs) (sym c.as_slice.ensures.value)
    (placed_had c.self.inside.table ls i l c.self.invariant at)

pub invariant_of-self : goal.invariant_of-self
invariant_of-self g c =
    let ls = c.self.inside.lists.items in
    let i = c.in-Ok.place in
    let l = c.remove-list.result in
    let here = subst (λ (s : RowsState). IsAt s.lists c.args.number i) (sym c.self.view_is) c.in-Ok.ensures.found in
    let at : IsPlaced ls i l = subst (IsPlaced ls i) (sym c.remove-list.ensures.value) (placed ls i l here.within) in
    let new = c.drop_rows.new.self in
    let come = subst (λ (xs : List ℕ). Comes new c.self.inside.table xs) c.as_slice.ensures.value c.drop_rows.ensures.come in
    subst (λ (ms : List Listed). IsRows new ms) (sym c.remove-list.ensures.items)
    (goes_rows c.self.inside.table new ls i l c.self.invariant at come)

pub returns-in-Ok-clause-goes : goal.returns-in-Ok-clause-goes
returns-in-Ok-clause-goes g c =
    let ls = c.self.inside.lists.items in
    let i = c.in-Ok.place in
    let l = c.remove-list.result in
    let here = subst (λ (s : RowsState). IsAt s.lists c.args.number i) (sym c.self.view_is) c.in-Ok.ensures.found in
    let at : IsPlaced ls i l = subst (IsPlaced ls i) (sym c.remove-list.ensures.value) (placed ls i l here.within) in
    let old = c.self.inside.table in
    let new = c.drop_rows.new.self in
    let come = subst (λ (xs : List ℕ). Comes new old xs) c.as_slice.ensures.value c.drop_rows.ensures.come in
    let number : l.number ≡ c.args.number =
    ap (λ (m : Listed). m.number) c.remove-list.ensures.value ∙ sym (number_at_is ls i l here.within) ∙ here.same in
    let has : listed old.rows ls l.number ≡ Some g.xs =
    ap (listed old.rows ls) number
    ∙ subst (λ (s : RowsState). list_of s c.args.number ≡ Some g.xs) (sym c.self.view_is) c.requires in
    let gone = goes old new ls i l g.xs c.self.invariant at come has c.drop_rows.ensures.room in
    let named = subst (λ (n : ℕ). ListGoes (Kept old ls) (Kept new (remove ls i)) n g.xs) number gone in
    let made = subst (λ (ms : List Listed). ListGoes (Kept old ls) (Kept new ms) c.args.number g.xs)
    (sym c.remove-list.ensures.items) named in
    subst (λ (s : RowsState). ListGoes s (Kept new c.remove-list.new.self.items) c.args.number g.xs) c.self.view_is made

pub returns-in-Ok-clause-fresh : goal.returns-in-Ok-clause-fresh
returns-in-Ok-clause-fresh g c = λ ys fresh. fresh_dropped (counts_of c.args.self.now) (counts c.drop_rows.new.self)
    g.xs ys (returns-in-Ok-clause-goes g c).held fresh
