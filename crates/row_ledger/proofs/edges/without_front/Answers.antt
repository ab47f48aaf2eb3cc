-- A row that stands at the front.
use Rattle.std.proofs.lemmas.Slice.Eq.{strip_prefix_is}
use Rattle.std.specs.Cmp.{unsigned_Decides}
use Rattle.row_ledger.proofs.Ends.{if_some}
use Rattle.row_ledger.proofs.edges.without_front.Goals as goal

pub returns : goal.returns
returns c = if_some c.strip_prefix.result _ _
    (strip_prefix_is unsigned_Decides c.args.ids.now c.args.row.now c.strip_prefix.result c.strip_prefix.ensures.cases)
