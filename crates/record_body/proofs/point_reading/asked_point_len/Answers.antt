-- A point whose fields all fit ends where they do.
use Rattle.record_body.proofs.Common.{length, refl, asked_point, point_widths}
use Rattle.record_body.proofs.Reaching.{asked_end}
use Rattle.record_body.proofs.point_reading.asked_point_len.Goals as goal

pub returns-in-Ok : goal.returns-in-Ok
returns-in-Ok c =
    let bytes = c.args.bytes.now in
    asked_end (length bytes) 0 _ (asked_point bytes) (point_widths bytes) refl c.in-Ok.ensures
