-- The page of its first sample is one of those that the stretch wants.
use Rattle.mix_reader.proofs.Common.{◌+◌, refl, arith, seen_part}
use Rattle.mix_reader.proofs.plans.runs_missed.Goals as goal

pub returns-clause-missed : goal.returns-clause-missed
returns-clause-missed g c = λ has.
    let first = c.in_ok-first.first in
    let seen = seen_part c.args.reader.now.cache c.args.from (c.args.from + c.args.len) c.args.from
    (c.args.from + first.len) c.args.track.now.layout (omega arith) (omega (arith, c.in_ok-first.ensures.all)) has in
    c.if-has_page.ensures refl (c.in_ok-first.ensures.first.pages c.args.reader.now.cache seen first.skip (omega arith)
    (omega (arith, c.in_ok-first.ensures.some, c.if-len-le-LARGE.false)))
