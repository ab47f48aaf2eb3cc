-- The next place, or a binary search by id.
use Rattle.std.proofs.Common.{rules, IfOk, IfErr, List, sym, ◌∙◌, ap, subst}
use Rattle.std.proofs.lemmas.List.Sorted.{answers_always}
use Rattle.block_ledger.specs.declared.entry.Entry.{Entry}
use Rattle.block_ledger.specs.Entries.{LedgerState, IsRising, IsAt, IsGap}
use Rattle.block_ledger.proofs.Searches.{found_at, gap_at}
use Rattle.block_ledger.proofs.ledger.Ledger.position.Goals as goal

pub returns-in_default-clause-found : goal.returns-in_default-clause-found
returns-in_default-clause-found c =
    let facts = c.binary_search_by_key.ensures in
    subst (λ (l : List Entry). IfOk c.binary_search_by_key.result (IsAt l c.args.id))
    (c.deref-in_default.ensures.value ∙ ap (λ (k : LedgerState). k.entries) c.self.view_is)
    (found_at c.deref-in_default.result.now c.args.id c.binary_search_by_key.result facts.bound
    (facts.position (λ entry. entry.id) (answers_always _ _ _ (λ f a r g called. search rules))))

pub returns-in_default-clause-absent : goal.returns-in_default-clause-absent
returns-in_default-clause-absent c =
    let facts = c.binary_search_by_key.ensures in
    subst (λ (l : List Entry). IfErr c.binary_search_by_key.result (IsGap l c.args.id))
    (c.deref-in_default.ensures.value ∙ ap (λ (k : LedgerState). k.entries) c.self.view_is)
    (gap_at c.deref-in_default.result.now c.args.id c.binary_search_by_key.result
    (subst IsRising (sym c.deref-in_default.ensures.value) c.self.invariant.rising) facts.bound
    (facts.position (λ entry. entry.id) (answers_always _ _ _ (λ f a r g called. search rules))))
