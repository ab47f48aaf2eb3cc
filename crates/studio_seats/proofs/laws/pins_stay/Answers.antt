-- The law is a lemma.
use Rattle.studio_seats.proofs.PinLemmas.{pins_stay}
use Rattle.studio_seats.proofs.laws.pins_stay.Goals as goal

pub returns : goal.returns
returns c = pins_stay
