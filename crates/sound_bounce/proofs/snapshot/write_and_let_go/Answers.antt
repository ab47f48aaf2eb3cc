-- The pin is let go after all that reads it.
use Rattle.sound_bounce.proofs.Common.{known, start_at, moved}
use Rattle.sound_bounce.proofs.BounceLemmas.{done_by}
use Rattle.sound_bounce.proofs.snapshot.write_and_let_go.Goals as goal

pub returns-clause-done : goal.returns-clause-done
returns-clause-done g c =
    let start = start_at c.args.task.now.desk.now in
    done_by start.rate c.args.pin c.args.task.now.batch c.write_pinned-what.result c.may_let_go-may.result
    (known c.args.seat.now) (known c.write_pinned-what.new.seat) (known c.let_go-gone.new.seat)
    (moved g.V.Vault c.args.task.now.name.now c.args.vault.now c.write_pinned-what.new.vault) c.may_let_go-may.ensures
    c.write_pinned-what.ensures.written c.let_go-gone.ensures.gone
