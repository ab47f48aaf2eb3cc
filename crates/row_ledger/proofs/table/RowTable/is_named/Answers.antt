-- The ledger has an occurrence of the same ids.
use Rattle.std.proofs.Common.{◌≡◌, ◌<◌, ◌∙◌, Some, None, sym, subst, arith}
use Rattle.std.proofs.lemmas.Bool.Decides.{nat_tests}
use Rattle.block_ledger.specs.{Counts.IsNamed, Entries.count_of}
use Rattle.row_ledger.specs.Rows.{TableState, counts}
use Rattle.row_ledger.proofs.Frees.{named_same}
use Rattle.row_ledger.proofs.table.RowTable.is_named.Goals as goal

pub returns-in-Some : goal.returns-in-Some
returns-in-Some c =
    let t : TableState = record { ledger = c.self.inside.ledger; rows = c.self.inside.rows.items } in
    let id = c.args.id in
    let same = named_same t id c.self.invariant in
    let is : count_of t.ledger id ≡ Some c.in-Some.count = sym c.count.ensures ∙ c.in-Some.is in (
      λ h.
          let some : 0 < c.in-Some.count = grind (arith, nat_tests) in
          subst (λ (s : TableState). IsNamed (counts s id)) c.self.view_is (same.1 (subst IsNamed (sym is) some)),
      λ h.
          let there = subst (λ (s : TableState). IsNamed (counts s id)) (sym c.self.view_is) h in
          let some : 0 < c.in-Some.count = subst IsNamed is (same.0 there) in
          grind (arith, nat_tests),
    )

pub returns-in-None : goal.returns-in-None
returns-in-None c =
    let t : TableState = record { ledger = c.self.inside.ledger; rows = c.self.inside.rows.items } in
    let id = c.args.id in
    let same = named_same t id c.self.invariant in
    let is : count_of t.ledger id ≡ None = sym c.count.ensures ∙ c.in-None.is in (
      λ h. absurd (grind (arith, nat_tests)),
      λ h.
          let there = subst (λ (s : TableState). IsNamed (counts s id)) (sym c.self.view_is) h in
          absurd (subst IsNamed is (same.0 there)),
    )
