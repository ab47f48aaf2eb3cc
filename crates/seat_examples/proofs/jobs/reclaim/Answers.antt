-- One reclaim more.
use Rattle.std.proofs.Common.{refl, arith}
use Rattle.pin_turn.specs.Calls.{known}
use Rattle.studio_seats.proofs.OnwardLemmas.{onward_on, onward_self, onward_turn}
use Rattle.studio_seats.specs.Freeing.{IsFullReclaim}
use Rattle.seat_examples.proofs.CallLemmas.{done_ok, one_turn}
use Rattle.seat_examples.proofs.jobs.reclaim.Goals as goal

pub rounds-init : goal.rounds-init
rounds-init g c =
    record { same = c.requires; goes = onward_self IsFullReclaim (known c.args.seat); turns = omega arith }

pub returns-in-Err-clause-goes : goal.returns-in-Err-clause-goes
returns-in-Err-clause-goes g c =
    let before = known c.rounds.seat in
    let after = known c.reclaim.new.seat in
    let more = onward_turn IsFullReclaim _ _ _ before after _ _ _ c.reclaim.result refl c.reclaim.ensures.says in
    onward_on IsFullReclaim (known c.args.seat) before after c.rounds.invariant.goes more

pub rounds-preserved : goal.rounds-preserved
rounds-preserved g c =
    let before = known c.rounds.seat in
    let after = known c.reclaim.new.seat in
    let more = onward_turn IsFullReclaim _ _ _ before after _ _ _ c.reclaim.result refl c.reclaim.ensures.says in
    let one = one_turn _ _ _ before after _ _ _ c.reclaim.result c.reclaim.ensures.says in
    let turn = done_ok _ c.reclaim.result.what c.in_default.not-Err one in
    record {
      same = c.reclaim.ensures.same;
      goes = onward_on IsFullReclaim (known c.args.seat) before after c.rounds.invariant.goes more;
      turns = omega (arith, turn, c.rounds.invariant.turns);
    }
