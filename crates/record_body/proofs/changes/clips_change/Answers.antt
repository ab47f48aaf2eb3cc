-- The blocks that are kept are common to both last clips.
use Rattle.record_body.proofs.Common.{arith}
use Rattle.record_body.proofs.ByClips.{last_within}
use Rattle.record_body.proofs.changes.clips_change.Goals as goal

pub returns-in-Some-clause-within : goal.returns-in-Some-clause-within
returns-in-Some-clause-within c = search (
  arith,
  c.last_change.ensures.value,
  c.last_change.ensures.few,
  c.last_blocks.ensures,
  c.last_blocks-in-Some.ensures,
  c.in-Some.ensures.new,
  c.in-Some.is,
  last_within,
)
