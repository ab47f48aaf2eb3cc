-- A number has a list.
use Rattle.layout_uses.proofs.Common.{sym, ◌∙◌, list_of}
use Rattle.layout_uses.proofs.Stays.{keeps_some, some_not}
use Rattle.layout_uses.proofs.blocks.kept_of.Goals as goal

pub returns-then-has_list : goal.returns-then-has_list
returns-then-has_list c =
    let o = list_of c.args.ledger.now c.args.base in
    λ ids keeps. keeps_some c.args.kept o ids keeps (some_not o (sym c.if-has_list.true ∙ c.has_list.ensures))
