-- What is common is within both, and so is what is known.
use Rattle.record_body.proofs.Common.{arith}
use Rattle.record_body.proofs.KnownFronts.{to_take}
use Rattle.block_sequence.proofs.Fronts.{common_within}
use Rattle.record_body.proofs.changes.common_len.Goals as goal

pub common-requires-clause-same : goal.common-requires-clause-same
common-requires-clause-same c =
    to_take c.min-2.result c.args.front c.args.old.now c.args.new.now
    (omega (arith, c.min.ensures, c.min-2.ensures))
    (omega (arith, c.min.ensures, c.min-2.ensures, c.count.ensures.value))
    (omega (arith, c.min-2.ensures, c.count-2.ensures.value))
    c.requires.known

pub returns-clause-old : goal.returns-clause-old
returns-clause-old c = omega (arith, c.common.ensures.value, (common_within c.args.old.now c.args.new.now).0)

pub returns-clause-new : goal.returns-clause-new
returns-clause-new c = omega (arith, c.common.ensures.value, (common_within c.args.old.now c.args.new.now).1)
