-- Nothing was searched before.
use Rattle.editor_recovery.proofs.Searched.{agree_none}
use Rattle.editor_recovery.proofs.sizes.wrong_first.Goals as goal

pub wrong_point-requires-clause-numbered : goal.wrong_point-requires-clause-numbered
wrong_point-requires-clause-numbered c =
    rw c.new-none.ensures (agree_none c.args.point.now)

pub wrong_point-requires-clause-searched : goal.wrong_point-requires-clause-searched
wrong_point-requires-clause-searched c =
    rw c.new-none.ensures tt
