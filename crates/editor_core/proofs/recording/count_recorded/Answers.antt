-- The clause of the count after an edit holds for each tag.
use Rattle.editor_core.proofs.Common.{◌∙◌, sym}
use Rattle.editor_core.proofs.PointCounts.{becomes_behind}
use Rattle.editor_core.proofs.KeptBodies.{keep_at_cursor}
use Rattle.editor_core.proofs.recording.count_recorded.Goals as goal

pub count_edit-requires-clause-kept : goal.count_edit-requires-clause-kept
count_edit-requires-clause-kept c =
    keep_at_cursor c.args.kept c.args.history.now.history c.args.point.now c.requires.kept

pub returns-else-continues : goal.returns-else-continues
returns-else-continues c =
    becomes_behind c.args.history.now.history c.args.point.now c.args.tag c.args.tally.now c.count_edit.new.tally
    (sym c.continues.ensures ∙ c.if-continues.false) (c.count_edit.ensures c.args.tag)
