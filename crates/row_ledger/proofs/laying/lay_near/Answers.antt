-- The ids are the rows with others in place of some.
use Rattle.row_ledger.specs.Rows.{counts, flat}
use Rattle.row_ledger.proofs.Ends.{middle_there}
use Rattle.row_ledger.proofs.laying.lay_near.Goals as goal

pub lay_spliced-requires-clause-there : goal.lay_spliced-requires-clause-there
lay_spliced-requires-clause-there c =
    let change = c.in-Some.change in
    let table = c.args.table.now in
    middle_there (counts table) (flat table.rows c.args.rows.now) c.args.ids.now change.from change.to change.middle.now
    c.in-Some.ensures c.requires.there
