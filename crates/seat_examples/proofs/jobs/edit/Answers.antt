-- One ramp more.
use Rattle.std.proofs.Common.{arith}
use Rattle.pin_turn.specs.Calls.{known}
use Rattle.studio_seats.proofs.{OnwardLemmas.onward_on, OnwardLemmas.onward_self, WorkLemmas.onward_as}
use Rattle.seat_examples.specs.Jobs.{IsRampIn}
use Rattle.seat_examples.proofs.CallLemmas.{done_ok}
use Rattle.seat_examples.proofs.jobs.edit.Goals as goal

pub lines-init : goal.lines-init
lines-init g c =
    let goes = onward_self (IsRampIn c.args.track) (known c.args.seat) in
    record { same = c.requires.seat; goes = goes; turns = omega arith }

pub returns-in-Err-clause-goes : goal.returns-in-Err-clause-goes
returns-in-Err-clause-goes g c =
    let ramp = IsRampIn c.args.track in
    let before = known c.lines.seat in
    let after = known c.line-said.new.seat in
    let more = onward_as _ ramp before after (λ call is. (_, _, _, is)) c.line-said.ensures.goes in
    onward_on ramp (known c.args.seat) before after c.lines.invariant.goes more

pub lines-preserved : goal.lines-preserved
lines-preserved g c =
    let ramp = IsRampIn c.args.track in
    let before = known c.lines.seat in
    let after = known c.line-said.new.seat in
    let more = onward_as _ ramp before after (λ call is. (_, _, _, is)) c.line-said.ensures.goes in
    let turn = done_ok _ c.line-said.result.what c.in_default.not-Err c.line-said.ensures.turn in
    record {
      same = c.line-said.ensures.same;
      goes = onward_on ramp (known c.args.seat) before after c.lines.invariant.goes more;
      turns = omega (arith, turn, c.lines.invariant.turns);
    }
