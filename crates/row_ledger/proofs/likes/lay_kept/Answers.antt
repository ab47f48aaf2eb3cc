-- What stands between is there.
use Rattle.row_ledger.specs.Rows.{counts, flat}
use Rattle.row_ledger.proofs.LikeLists.{like_there}
use Rattle.row_ledger.proofs.likes.lay_kept.Goals as goal

pub lay_spliced-requires-clause-there : goal.lay_spliced-requires-clause-there
lay_spliced-requires-clause-there c =
    let table = c.args.table.now in
    like_there (counts table) (flat table.rows c.args.rows.now) c.args.front c.args.back c.args.middle.now
    c.requires.there
