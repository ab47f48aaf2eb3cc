-- What the loop of `append_ids` keeps.
use Rattle.std.proofs.Common.{◌≡◌, ◌++◌, drop}
use Rattle.row_ledger.specs.Rows.{flat, from_to}
use Rattle.row_ledger.proofs.laying.append_ids.Given as goal

abbrev pub invariant-loop-row : goal.invariant-loop-row
invariant-loop-row l = l.out.items ++ from_to l.skip l.end (flat l.table.rows (drop l.row-index l.rows))
    ≡ l.fn.out.items ++ from_to l.from l.to (flat l.table.rows l.rows)
