-- Bytes copied over zeros.
use Rattle.project_journal.proofs.Common.{arith}
use Rattle.project_journal.proofs.Padded.{padded_is}
use Rattle.project_journal.proofs.base_header.fill_head.Goals as goal

pub returns : goal.returns
returns c = padded_is c.args.bytes.now _ _ _ (omega (arith, c.min-len.ensures)) c.copy_from_slice.ensures.after c.requires
