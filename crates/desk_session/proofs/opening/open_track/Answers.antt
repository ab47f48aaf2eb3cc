-- A new track is one turn of the seat.
use Rattle.desk_session.proofs.OpeningLemmas.{tells_number, track_made, track_refused, track_tag}
use Rattle.desk_session.proofs.opening.open_track.Goals as goal

pub returns-in-Ok-clause-opens : goal.returns-in-Ok-clause-opens
returns-in-Ok-clause-opens g c = track_made _ _ _ _ _ _ c.apply-at.result c.apply-at.ensures.says tt c.in-Ok.is

pub returns-in-Ok-clause-at : goal.returns-in-Ok-clause-at
returns-in-Ok-clause-at g c = tells_number _ _ _ _ _ _ _ c.apply-at.result c.apply-at.ensures.says

pub returns-in-Ok-clause-tag : goal.returns-in-Ok-clause-tag
returns-in-Ok-clause-tag g c = track_tag _ _ _ _ _ _ c.apply-at.result c.apply-at.ensures.says tt c.in-Ok.is

pub returns-clause-opens : goal.returns-clause-opens
returns-clause-opens g c =
    track_refused _ _ _ _ _ _ c.apply-at.result c.apply-at.ensures.says c.in-Err.reason c.in-Err.is

pub returns-clause-at : goal.returns-clause-at
returns-clause-at g c = tells_number _ _ _ _ _ _ _ c.apply-at.result c.apply-at.ensures.says
