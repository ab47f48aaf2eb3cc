-- The blocks that come have 12 bytes each.
use Rattle.record_body.proofs.Common.{arith}
use Rattle.record_body.proofs.Parts.{length_blocks}
use Rattle.record_body.proofs.changes_writing.diff_len.Goals as goal

pub returns-in-Tail-clause-value : goal.returns-in-Tail-clause-value
returns-in-Tail-clause-value c = search (arith, c.in-Tail.is, c.fresh.ensures.value, length_blocks)
