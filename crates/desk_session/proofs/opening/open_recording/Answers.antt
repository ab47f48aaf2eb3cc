-- A new track, where it is asked for.
use Rattle.pin_turn.specs.Calls.{known}
use Rattle.studio_seats.specs.Desks.{start_at}
use Rattle.desk_session.proofs.OpeningLemmas.{opens_none, tells_none}
use Rattle.desk_session.proofs.opening.open_recording.Goals as goal

pub returns-then-records-clause-opens : goal.returns-then-records-clause-opens
returns-then-records-clause-opens g c = rw c.made_by.ensures.is c.open_track-at.ensures.opens

pub returns-then-records-clause-at : goal.returns-then-records-clause-at
returns-then-records-clause-at g c = c.open_track-at.ensures.at

pub returns-else-records-clause-opens : goal.returns-else-records-clause-opens
returns-else-records-clause-opens g c = opens_none _ (known c.args.seat.now)

pub returns-else-records-clause-at : goal.returns-else-records-clause-at
returns-else-records-clause-at g c = tells_none (start_at c.args.desk.now).commit_number (known c.args.seat.now)
