-- Without memory there is no turn.
use Rattle.sound_bounce.proofs.Common.{known, start_at}
use Rattle.sound_bounce.proofs.BounceLemmas.{bounced_none}
use Rattle.sound_bounce.proofs.snapshot.bounce.Goals as goal

pub returns-in-Err-clause-bounced : goal.returns-in-Err-clause-bounced
returns-in-Err-clause-bounced g c =
    bounced_none g.S.Store g.V.Vault (start_at c.args.task.now.desk.now) c.args.task.now.batch (known c.args.seat.now) c.args.task.now.name.now
    c.args.vault.now
