-- The blocks of the stretch that is entered are among those that were left.
use Rattle.envelope_view.proofs.Common.{arith, common_steps}
use Rattle.envelope_view.proofs.{AheadLaws.entered_blocks, KeptLaws.entered_pages}
use Rattle.envelope_view.proofs.ahead.Ahead.next.Goals as goal

pub returns-in-Some-clause-blocks : goal.returns-in-Some-clause-blocks
returns-in-Some-clause-blocks c = λ b there.
    entered_blocks c.args.self.now.stretch c.in-Some.stretch c.args.self.now.rest _ b c.in-Some.ensures.next there

pub returns-in-Some-clause-kept : goal.returns-in-Some-clause-kept
returns-in-Some-clause-kept c = λ a n has.
    entered_pages a n c.args.self.now.stretch c.in-Some.stretch c.args.self.now.rest _
    (grind (arith, common_steps)) c.in-Some.ensures.next has
