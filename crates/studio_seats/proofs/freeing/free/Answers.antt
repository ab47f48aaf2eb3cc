-- A reclaim in a turn of the seat.
use Rattle.studio_seats.proofs.Common.{Freed, known, as_reply, start_at}
use Rattle.studio_seats.proofs.RecordingLemmas.{frees_turn}
use Rattle.studio_seats.proofs.freeing.free.Goals as goal

pub returns-clause-frees : goal.returns-clause-frees
returns-clause-frees g c =
    frees_turn g.S.Store g.V.Vault (start_at c.args.desk.now) (known c.args.seat.now) (known c.reclaim.new.seat)
    (as_reply Freed c.reclaim.result.what) c.reclaim.result c.reclaim.ensures.says
