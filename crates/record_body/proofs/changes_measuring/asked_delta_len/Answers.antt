-- An edit whose fields all fit ends where they do.
use Rattle.record_body.proofs.Common.{length, asked_delta, delta_widths}
use Rattle.record_body.proofs.{Measured.asked_edit_by, Reaching.asked_end}
use Rattle.record_body.proofs.changes_measuring.asked_delta_len.Goals as goal

pub returns-in-Ok : goal.returns-in-Ok
returns-in-Ok c =
    let bytes = c.args.bytes.now in
    asked_end (length bytes) 0 _ (asked_delta bytes) (delta_widths bytes) (asked_edit_by bytes c.in-5.is)
    c.in-Ok.ensures
