-- The list of the number.
use Rattle.row_ledger.specs.Lists.{list_of}
use Rattle.row_examples.proofs.Bounded.{some_ids}
use Rattle.row_examples.proofs.tested.Tested.drop_list.Given as goal

abbrev pub ghost-drop_list : goal.ghost-drop_list
ghost-drop_list a = some_ids (list_of a.self.now a.number)
