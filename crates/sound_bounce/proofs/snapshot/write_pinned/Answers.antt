-- The length is asked in one turn, and then the file is written.
use Rattle.sound_bounce.proofs.Common.{known, start_at, moved}
use Rattle.sound_bounce.proofs.FileLemmas.{length_refused, length_written}
use Rattle.sound_bounce.proofs.snapshot.write_pinned.Goals as goal

pub returns-in-Ok-clause-written : goal.returns-in-Ok-clause-written
returns-in-Ok-clause-written g c =
    let start = start_at c.args.task.now.desk.now in
    length_written g.S.Store g.V.Vault start start.rate c.args.pin c.args.task.now.batch (known c.args.seat.now)
    (known c.pin_len-what.new.seat) c.pin_len-what.result c.pin_len-what.ensures.says
    (known c.write_file.new.seat) c.in-Ok.len c.in-Ok.is c.write_file.result
    (moved g.V.Vault c.args.task.now.name.now c.args.vault.now c.write_file.new.vault) c.write_file.ensures.files

pub returns-in-Err-clause-written : goal.returns-in-Err-clause-written
returns-in-Err-clause-written g c =
    let start = start_at c.args.task.now.desk.now in
    length_refused g.S.Store g.V.Vault start start.rate c.args.pin c.args.task.now.batch (known c.args.seat.now)
    (known c.pin_len-what.new.seat) c.pin_len-what.result c.pin_len-what.ensures.says c.in-Err.reason c.in-Err.is
    c.args.task.now.name.now c.args.vault.now
