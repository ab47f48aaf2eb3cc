-- A pin is one turn of the seat.
use Rattle.std.proofs.Common.{◌≡◌, refl}
use Rattle.pcm_base.specs.declared.command.Call.TheVariants.{Pin}
use Rattle.studio_seats.proofs.OnwardLemmas.{onward_turn}
use Rattle.seat_examples.proofs.session.pinned.Goals as goal

pub returns-clause-goes : goal.returns-clause-goes
returns-clause-goes g c = onward_turn (λ call. call ≡ Pin) _ _ _ _ _ _ _ _ c.pin.result refl c.pin.ensures.says
