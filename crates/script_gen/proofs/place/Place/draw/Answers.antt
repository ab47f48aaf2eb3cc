-- The upper bits of the next state.
use Rattle.std.proofs.{Common.arith, lemmas.Grind.common_steps}
use Rattle.script_gen.specs.Draws.{drawn}
use Rattle.script_gen.proofs.place.Place.draw.Goals as goal

pub returns-clause-value : goal.returns-clause-value
unfolding drawn
returns-clause-value c = grind (arith, common_steps)
