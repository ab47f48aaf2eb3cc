-- A row that stands at the end.
use Rattle.std.proofs.lemmas.Slice.Eq.{strip_suffix_is}
use Rattle.std.specs.Cmp.{unsigned_Decides}
use Rattle.row_ledger.proofs.Ends.{if_some}
use Rattle.row_ledger.proofs.edges.without_end.Goals as goal

pub returns : goal.returns
returns c = if_some c.strip_suffix.result _ _
    (strip_suffix_is unsigned_Decides c.args.ids.now c.args.row.now c.strip_suffix.result c.strip_suffix.ensures.cases)
