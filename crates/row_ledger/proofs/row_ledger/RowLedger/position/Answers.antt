-- A binary search by number.
use Rattle.std.proofs.Common.{rules, IfOk, IfErr, List, sym, ◌∙◌, ap, subst}
use Rattle.std.proofs.lemmas.List.Sorted.{answers_always}
use Rattle.row_ledger.specs.declared.row.Listed.{Listed}
use Rattle.row_ledger.specs.Lists.{RowsState, IsRising, IsAt, IsGap}
use Rattle.row_ledger.proofs.{Searches.found, Searches.gap, Numbers.gap_lacks}
use Rattle.row_ledger.proofs.row_ledger.RowLedger.position.Goals as goal

pub returns-clause-found : goal.returns-clause-found
returns-clause-found c =
    let facts = c.binary_search_by_key.ensures in
    subst (λ (ls : List Listed). IfOk c.binary_search_by_key.result (IsAt ls c.args.number))
    (c.deref.ensures.value ∙ ap (λ (s : RowsState). s.lists) c.self.view_is)
    (found c.deref.result.now c.args.number c.binary_search_by_key.result facts.bound
    (facts.position (λ list. list.number) (answers_always _ _ _ (λ f a r g called. search rules))))

pub returns-clause-absent : goal.returns-clause-absent
returns-clause-absent c =
    let facts = c.binary_search_by_key.ensures in
    subst (λ (ls : List Listed). IfErr c.binary_search_by_key.result (IsGap ls c.args.number))
    (c.deref.ensures.value ∙ ap (λ (s : RowsState). s.lists) c.self.view_is)
    (gap c.deref.result.now c.args.number c.binary_search_by_key.result
    (subst IsRising (sym c.deref.ensures.value) c.self.invariant.rising) facts.bound
    (facts.position (λ list. list.number) (answers_always _ _ _ (λ f a r g called. search rules))))

pub returns-clause-none : goal.returns-clause-none
returns-clause-none c = gap_lacks c.args.self.now.table.rows c.args.self.now.lists c.args.number
    c.binary_search_by_key.result (returns-clause-absent c)
