-- The point at the cursor is the first after those before it.
use Rattle.editor_core.proofs.Common.{sym, ap, ◌∙◌, slice_get, points_of}
use Rattle.record_body.proofs.SavedBounds.{at_cursor}
use Rattle.editor_core.proofs.current.current_of.Goals as goal

pub returns : goal.returns
returns c =
    let h = c.args.history.now.history in
    at_cursor h.cursor h.points _ (ap (slice_get (points_of h)) (sym c.cursor.ensures.cursor) ∙ c.point.ensures)
