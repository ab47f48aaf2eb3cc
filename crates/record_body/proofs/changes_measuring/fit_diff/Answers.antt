-- Id and mark, and what belongs to the mark.
use Rattle.record_body.proofs.Common.{arith}
use Rattle.record_body.proofs.Reaching.{reaches_on}
use Rattle.record_body.proofs.changes_measuring.fit_diff.Goals as goal

pub returns : goal.returns
returns c = search (arith, c.in_ok-end.ensures.0, c.fit_marked.ensures, c.in_ok-end.ensures.1, reaches_on)
