-- The line is one turn of the seat.
use Rattle.std.proofs.Common.{◌≡◌, refl}
use Rattle.pcm_base.specs.declared.command.Call.TheVariants.{Line}
use Rattle.studio_seats.proofs.{OnwardLemmas.onward_turn, Turns.said_number}
use Rattle.seat_examples.proofs.CallLemmas.{counted, one_turn}
use Rattle.seat_examples.proofs.lines.line.Goals as goal

pub returns-clause-goes : goal.returns-clause-goes
returns-clause-goes g c =
    onward_turn (λ call. call ≡ Line c.args.command.now) _ _ _ _ _ _ _ _ c.apply.result refl c.apply.ensures.says

pub returns-clause-turn : goal.returns-clause-turn
returns-clause-turn g c = one_turn _ _ _ _ _ _ _ _ c.apply.result c.apply.ensures.says

pub returns-clause-number : goal.returns-clause-number
returns-clause-number g c = said_number _ _ _ _ _ _ _ _ c.apply.result c.apply.ensures.says

pub returns-clause-commit : goal.returns-clause-commit
returns-clause-commit g c = λ commit.
    counted _ _ _ _ _ (Line c.args.command.now) _ _ commit c.apply.result c.apply.ensures.says
