-- Blocks that are all known are the same.
use Rattle.record_body.proofs.Common.{sym, ◌∙◌, arith, le-leb}
use Rattle.record_body.proofs.KnownFronts.{known_same}
use Rattle.record_body.proofs.changes.same_blocks.Goals as goal

pub returns-then-count-front : goal.returns-then-count-front
returns-then-count-front c =
    le-leb c.count-3.result c.args.front c.if-count-front.true
    ∙ sym (known_same c.args.front c.args.old.now c.args.new.now
    (omega (arith, c.if-count.false, c.count.ensures.value, c.count-2.ensures.value))
    (omega (arith, c.if-count-front.true, c.count-3.ensures.value))
    c.requires.known)
