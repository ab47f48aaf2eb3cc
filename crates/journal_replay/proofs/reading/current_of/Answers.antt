-- The point at the cursor is the first after those before it.
use Rattle.journal_replay.proofs.Common.{sym, ap, ◌∙◌, slice_get}
use Rattle.pcm_base.specs.History.{points_of}
use Rattle.record_body.proofs.SavedBounds.{at_cursor}
use Rattle.journal_replay.proofs.reading.current_of.Goals as goal

pub returns : goal.returns
returns c =
    let h = c.args.history.now.history in
    at_cursor h.cursor h.points _ (ap (slice_get (points_of h)) (sym c.cursor.ensures.cursor) ∙ c.point.ensures)
