-- A line that is no bounce is one turn.
use Rattle.core_examples.proofs.Turns.{turn_of}
use Rattle.core_examples.proofs.scripts.apply.Goals as goal

pub apply-told-requires : goal.apply-told-requires
apply-told-requires g c = record {
  studio = c.requires.studio;
  in_form = c.requires.in_form;
  turn = turn_of c.args.command.now c.in_default.not-Bounce;
}
