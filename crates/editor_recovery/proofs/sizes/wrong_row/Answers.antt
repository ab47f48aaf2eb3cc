-- A row that was searched brings nothing new.
use Rattle.editor_recovery.proofs.Common.{sym, size_in}
use Rattle.editor_recovery.proofs.Searched.{row_searched}
use Rattle.editor_recovery.proofs.sizes.wrong_row.Goals as goal

pub returns-then-has_row : goal.returns-then-has_row
returns-then-has_row c =
    sym (row_searched (size_in c.args.sizes.now) c.args.found c.args.olds.now c.args.blocks.now
    (c.has_row.ensures c.if-has_row.true) c.requires.searched)
