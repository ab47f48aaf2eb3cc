-- The list goes to its place, which takes no memory.
use Rattle.std.proofs.Common.{◌≡◌, is_ok, refl, ◌∙◌}
use Rattle.std.proofs.lemmas.Bool.{cond-true}
use Rattle.std.specs.List.{insert}
use Rattle.row_ledger.proofs.Comings.{any_ok}
use Rattle.row_ledger.proofs.row_ledger.finish.Goals as goal

pub returns-clause-ok : goal.returns-clause-ok
returns-clause-ok c =
    let made = insert c.args.lists.now.items c.args.place c.args.list in
    let items : c.insert.new.self.items ≡ made =
    c.insert.ensures.items ∙ cond-true (is_ok c.insert.result) _ _ (c.insert.ensures.succeeds c.requires.room) in
    any_ok c.args.laid ((c.args.table.now ≡ c.args.table.now) × (c.insert.new.self.items ≡ made)) (refl, items)
