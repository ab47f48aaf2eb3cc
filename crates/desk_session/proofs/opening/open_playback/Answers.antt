-- A pin is one turn of the seat.
use Rattle.pin_turn.specs.Calls.{known}
use Rattle.studio_seats.specs.Desks.{start_at}
use Rattle.desk_session.proofs.OpeningLemmas.{opens_none, pinned, tells_none, tells_number}
use Rattle.desk_session.proofs.opening.open_playback.Goals as goal

pub returns-then-plays-clause-opens : goal.returns-then-plays-clause-opens
returns-then-plays-clause-opens g c =
    rw c.made_by.ensures.is (pinned _ _ _ _ _ c.pin-at.result c.pin-at.ensures.says)

pub returns-then-plays-clause-at : goal.returns-then-plays-clause-at
returns-then-plays-clause-at g c = tells_number _ _ _ _ _ _ _ c.pin-at.result c.pin-at.ensures.says

pub returns-else-plays-clause-opens : goal.returns-else-plays-clause-opens
returns-else-plays-clause-opens g c = opens_none _ (known c.args.seat.now)

pub returns-else-plays-clause-at : goal.returns-else-plays-clause-at
returns-else-plays-clause-at g c = tells_none (start_at c.args.desk.now).commit_number (known c.args.seat.now)
