-- The entry goes to its place, and the leaves from there on are written.
use Rattle.std.proofs.Common.{◌≡◌, ◌<◌, Some, None, List, length, map, get_or, is_ok, sym, ◌∙◌, ap, subst, arith}
use Rattle.std.proofs.{lemmas.Bool.cond-true, lemmas.List.Edits.length-insert}
use Rattle.std.specs.List.{insert}
use Rattle.block_ledger.specs.declared.entry.Entry.{Entry}
use Rattle.block_ledger.specs.Entries.{LedgerState, free_of, IsRising, IsLeaves, IsGap}
use Rattle.block_ledger.proofs.{Rising.rising_insert, Leaves.leaves_before}
use Rattle.block_ledger.proofs.ledger.Ledger.add.Goals as goal

pub refresh-requires-clause-before : goal.refresh-requires-clause-before
refresh-requires-clause-before c = λ k lt.
    let all = c.self.invariant in
    let entries = c.self.inside.entries.items in
    let new : Entry = record { id = c.args.id; count = Some 1 } in
    let gap : IsGap entries c.args.id c.args.i =
    subst (λ (k : LedgerState). IsGap k.entries c.args.id c.args.i) (sym c.self.view_is) c.requires.gap in
    let spare : length entries < length c.self.inside.free =
    omega (arith, subst (λ (k : LedgerState). 0 < k.spare) (sym c.self.view_is) c.requires.room) in
    let items : c.insert.new.self.items ≡ insert entries c.args.i new =
    c.insert.ensures.items ∙ cond-true (is_ok c.insert.result) _ _
    (c.insert.ensures.succeeds (omega (arith, all.room, spare, c.self.inside.entries.ok.0))) in
    leaves_before entries c.self.inside.free c.args.i new gap.within all.leaves k lt
    ∙ ap (λ (l : List Entry). get_or (map free_of l) k None) (sym (c.deref.ensures.value ∙ items))

pub invariant_of-self : goal.invariant_of-self
invariant_of-self c =
    let all = c.self.invariant in
    let entries = c.self.inside.entries.items in
    let new : Entry = record { id = c.args.id; count = Some 1 } in
    let gap : IsGap entries c.args.id c.args.i =
    subst (λ (k : LedgerState). IsGap k.entries c.args.id c.args.i) (sym c.self.view_is) c.requires.gap in
    let spare : length entries < length c.self.inside.free =
    omega (arith, subst (λ (k : LedgerState). 0 < k.spare) (sym c.self.view_is) c.requires.room) in
    let items : c.insert.new.self.items ≡ insert entries c.args.i new =
    c.insert.ensures.items ∙ cond-true (is_ok c.insert.result) _ _
    (c.insert.ensures.succeeds (omega (arith, all.room, spare, c.self.inside.entries.ok.0))) in
    record {
      rising = subst IsRising (sym items) (rising_insert entries c.args.i new all.rising gap);
      leaves = subst (λ (l : List Entry). IsLeaves l c.refresh.new.free) c.deref.ensures.value c.refresh.ensures.leaves;
      few = omega (arith, spare, ap length items, length-insert entries c.args.i new gap.within, c.refresh.ensures.len);
      room = omega (arith, all.room, c.refresh.ensures.len, c.insert.ensures.capacity);
    }
