-- An edit whose fields all fit ends where they do.
use Rattle.record_body.proofs.Common.{length, asked_length, edit_widths}
use Rattle.record_body.proofs.Reaching.{asked_edit, asked_end}
use Rattle.record_body.proofs.measuring.asked_len.Goals as goal

pub returns-in-Ok : goal.returns-in-Ok
returns-in-Ok c =
    let bytes = c.args.bytes.now in
    asked_end (length bytes) 0 _ (asked_length bytes) (edit_widths bytes) (asked_edit bytes c.in-1.is) c.in-Ok.ensures
