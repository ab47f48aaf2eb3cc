-- The seat that closes the desk is the first, and none is away from it.
use Rattle.std.proofs.Common.{◌∙◌}
use Rattle.studio_seats.proofs.{Grown.leads, Turns.seat_stays}
use Rattle.desk_examples.proofs.desk_tests.two_threads_at_one_desk.Goals as goal

pub close-studio-requires : goal.close-studio-requires
close-studio-requires g c =
    let first = c.in_ok-desk.ensures.first in
    let joined = c.by_two-seat.ensures.stays in
    let undone = seat_stays _ _ _ _ _ _ _ _ c.undo.result c.undo.ensures.says in
    let redone = seat_stays _ _ _ _ _ _ _ _ c.redo.result c.redo.ensures.says in
    let purged = seat_stays _ _ _ _ _ _ _ _ c.purge.result c.purge.ensures.says in
    let told = seat_stays _ _ _ _ _ _ _ _ c.pin_len.result c.pin_len.ensures.says in (
      c.pin_len.ensures.same,
      told.0 ∙ purged.0 ∙ redone.0 ∙ undone.0 ∙ joined.number ∙ first.0,
      told.1 ∙ purged.1 ∙ redone.1 ∙ undone.1 ∙ joined.away ∙ first.1,
    )

pub commits_in-requires : goal.commits_in-requires
commits_in-requires g c = (leads _ _ _ c.close-studio.ensures.stands).studio
