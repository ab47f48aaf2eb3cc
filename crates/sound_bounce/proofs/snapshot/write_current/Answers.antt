-- The pin is the first turn.
use Rattle.sound_bounce.proofs.Common.{known, start_at, moved}
use Rattle.sound_bounce.proofs.BounceLemmas.{bounced_by, bounced_refused}
use Rattle.sound_bounce.proofs.snapshot.write_current.Goals as goal

pub returns-in-Ok-clause-bounced : goal.returns-in-Ok-clause-bounced
returns-in-Ok-clause-bounced g c =
    bounced_by g.S.Store g.V.Vault (start_at c.args.task.now.desk.now) c.args.task.now.batch (known c.args.seat.now)
    (known c.pin-at.new.seat) c.pin-at.result c.pin-at.ensures.says (known c.write_and_let_go.new.seat) c.in-Ok.pin
    c.write_and_let_go.result (moved g.V.Vault c.args.task.now.name.now c.args.vault.now c.write_and_let_go.new.vault)
    c.in-Ok.is c.write_and_let_go.ensures.done

pub returns-in-Err-clause-bounced : goal.returns-in-Err-clause-bounced
returns-in-Err-clause-bounced g c =
    bounced_refused g.S.Store g.V.Vault (start_at c.args.task.now.desk.now) c.args.task.now.batch (known c.args.seat.now)
    (known c.pin-at.new.seat) c.pin-at.result c.pin-at.ensures.says c.in-Err.reason c.in-Err.is c.args.task.now.name.now
    c.args.vault.now
