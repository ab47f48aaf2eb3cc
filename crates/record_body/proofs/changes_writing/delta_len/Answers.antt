-- A byte of mark a track, at most.
use Rattle.record_body.proofs.Common.{arith}
use Rattle.record_body.proofs.DeltaLengths.{all_diff_most}
use Rattle.record_body.proofs.changes_writing.delta_len.Goals as goal

pub all_diff_len-requires-clause-numbers : goal.all_diff_len-requires-clause-numbers
all_diff_len-requires-clause-numbers c = search (arith, c.in-Edit.is, c.requires.numbers)

pub all_diff_len-requires-clause-kept : goal.all_diff_len-requires-clause-kept
all_diff_len-requires-clause-kept c = search (arith, c.in-Edit.is, c.requires.kept)

pub returns-in-Edit-clause-more : goal.returns-in-Edit-clause-more
returns-in-Edit-clause-more c = search (arith, c.in-Edit.is, c.all_diff_len.ensures.value, all_diff_most)
