-- A load is one turn of the seat.
use Rattle.sound_bounce.proofs.Common.{known, start_at}
use Rattle.sound_bounce.proofs.StretchLemmas.{load_next, next_refused}
use Rattle.sound_bounce.proofs.stretches.load_stretch.Goals as goal

pub returns-in-Ok-clause-load : goal.returns-in-Ok-clause-load
returns-in-Ok-clause-load g c =
    let has = rw c.in-Ok.is at c.load_pin-what.ensures.loaded in
    load_next g.S.Store g.V.Vault (start_at c.args.desk.now) c.args.part.pin c.args.part.batch c.args.part.from
    (known c.args.seat.now) (known c.load_pin-what.new.seat) c.load_pin-what.result c.load_pin-what.new.loaded
    c.load_pin-what.ensures.says _ c.in-Ok.is has

pub returns-in-Err-clause-load : goal.returns-in-Err-clause-load
returns-in-Err-clause-load g c =
    next_refused g.S.Store g.V.Vault (start_at c.args.desk.now) c.args.part.pin c.args.part.batch c.args.part.from
    (known c.args.seat.now) (known c.load_pin-what.new.seat) c.load_pin-what.result c.load_pin-what.new.loaded
    c.load_pin-what.ensures.says c.in-Err.reason c.in-Err.is
