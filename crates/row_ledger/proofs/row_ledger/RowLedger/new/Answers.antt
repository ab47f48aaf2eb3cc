-- A table without rows, and no lists.
use Rattle.std.proofs.Common.{ap}
use Rattle.block_ledger.specs.Counts.{occurrences}
use Rattle.row_ledger.proofs.Changes.{no_rows, no_list}
use Rattle.row_ledger.proofs.row_ledger.RowLedger.new.Goals as goal

pub invariant_of-result : goal.invariant_of-result
invariant_of-result c = no_rows c.new.result c.new-2.result.items c.new.ensures.rows c.new-2.ensures.items

pub returns-clause-counts : goal.returns-clause-counts
returns-clause-counts c = c.new.ensures.counts

pub returns-clause-singles : goal.returns-clause-singles
returns-clause-singles c = c.new.ensures.singles

pub returns-clause-lists : goal.returns-clause-lists
returns-clause-lists c = λ n. no_list c.new.result c.new-2.result.items n c.new-2.ensures.items

pub returns-clause-fresh : goal.returns-clause-fresh
returns-clause-fresh c = λ id. ap occurrences (c.new.ensures.counts id)

pub returns-clause-places : goal.returns-clause-places
returns-clause-places c = c.new.ensures.places
