-- The list of a number.
use Rattle.layout_uses.proofs.Common.{list_of}
use Rattle.layout_uses.proofs.Listing.{some_ids}
use Rattle.layout_uses.proofs.blocks.drop_layout.Given as goal

abbrev pub ghost-drop_list : goal.ghost-drop_list
ghost-drop_list a = some_ids (list_of a.self.now a.number)
