-- A block in its bounds passes its tests.
use Rattle.record_body.proofs.Common.{arith}
use Rattle.record_body.proofs.Moved.{pass_none}
use Rattle.record_body.proofs.reading_clips.read_block.Goals as goal

pub returns-then-is_in_bounds : goal.returns-then-is_in_bounds
returns-then-is_in_bounds c =
    search (
      arith,
      c.u64_at-id.ensures,
      c.u32_at-len.ensures,
      c.is_in_bounds.ensures.given,
      c.if-is_in_bounds.true,
      c.is_in_bounds.ensures.long,
      c.is_in_bounds.ensures.near,
      c.least_block-least_len.ensures,
      pass_none,
    )
