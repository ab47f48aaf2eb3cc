-- A row more at the front.
use Rattle.std.proofs.Common.{ℕ, List, ◌++◌, ◌∙◌, ap, arith}
use Rattle.row_ledger.proofs.Ends.{front_more}
use Rattle.row_ledger.proofs.edges.front_of.Goals as goal

pub loop-row-preserved : goal.loop-row-preserved
loop-row-preserved c = record {
  within = omega (arith, c.loop-row-test.true);
  same = front_more c.args.table.now.rows c.args.rows.now c.args.ids.now c.loop-row.rest.now c.in-Some.more.now
      c.loop-row.row
      0 c.loop-row-test.true c.loop-row.invariant.same
      (c.in-Some.ensures ∙ ap (λ (xs : List ℕ). xs ++ c.in-Some.more.now) c.ids.ensures);
}
