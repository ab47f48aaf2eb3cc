-- A ledger without ids, and no rows.
use Rattle.row_ledger.proofs.Singles.{no_table, no_counts, no_singles}
use Rattle.row_ledger.proofs.table.RowTable.new.Goals as goal

pub invariant_of-result : goal.invariant_of-result
invariant_of-result c = no_table c.new.result c.new-2.result.items c.new-2.ensures.items

pub returns-clause-counts : goal.returns-clause-counts
returns-clause-counts c = λ id. no_counts c.new.result c.new-2.result.items id (c.new.ensures.counts id)

pub returns-clause-singles : goal.returns-clause-singles
returns-clause-singles c = λ id. no_singles c.new.result c.new-2.result.items id (c.new.ensures.counts id)

pub returns-clause-rows : goal.returns-clause-rows
returns-clause-rows c = c.new-2.ensures.items

pub returns-clause-places : goal.returns-clause-places
returns-clause-places c = c.new.ensures.places
