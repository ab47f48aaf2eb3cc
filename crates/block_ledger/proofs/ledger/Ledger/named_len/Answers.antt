-- Entry by entry.
use Rattle.std.proofs.Common.{length, ◌∙◌, ap, subst, arith}
use Rattle.std.proofs.lemmas.List.{take_all, length-map}
use Rattle.std.specs.List.{filter}
use Rattle.block_ledger.specs.Counts.{IsNamed, AreNamed}
use Rattle.block_ledger.specs.Entries.{LedgerState, count_of, id_of, is_named}
use Rattle.block_ledger.proofs.{Listed.named_in, Listed.are_named, Listed.passed_most, Once.one_length}
use Rattle.block_ledger.proofs.ledger.Ledger.named_len.Goals as goal

pub overflow_add-named : goal.overflow_add-named
overflow_add-named c =
    omega (
      arith,
      c.loop-entry.invariant,
      passed_most is_named c.deref-entry-items.result.now c.loop-entry.entry-index,
      c.loop-entry-test.true,
      c.deref-entry-items.ensures.len,
      c.self.inside.entries.small,
    )

pub returns-clause-ids : goal.returns-clause-ids
returns-clause-ids c =
    let entries = c.self.inside.entries.items in
    let all = c.loop-entry.invariant ∙ ap (λ es. length (filter is_named es))
    (take_all _ _ c.loop-entry-test.false ∙ c.deref-entry-items.ensures.value) in (
      named_in entries,
      subst (λ (k : LedgerState). AreNamed (count_of k) (named_in entries)) c.self.view_is
          (are_named entries c.self.invariant.rising),
      omega (arith, all, length-map (filter is_named entries) id_of),
    )

pub returns-clause-any : goal.returns-clause-any
returns-clause-any c = λ ids are.
    let one = returns-clause-ids c in
    one.2 ∙ one_length (λ id. IsNamed (count_of c.args.self.now id)) one.0 ids one.1 are
