-- The number has a list.
use Rattle.std.proofs.Common.{◌∙◌, sym}
use Rattle.row_ledger.specs.Lists.{list_of}
use Rattle.row_examples.proofs.Bounded.{is_ids}
use Rattle.row_examples.proofs.tested.Tested.drop_list.Goals as goal

pub drop_list-requires : goal.drop_list-requires
drop_list-requires c = is_ids (list_of c.self.inside.ledger c.args.number)
    (sym c.has_list.ensures ∙ c.if-not-has_list.false)
