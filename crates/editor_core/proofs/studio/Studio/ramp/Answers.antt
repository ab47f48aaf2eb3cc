-- A ramp is a step.
use Rattle.editor_core.proofs.Common.{arith, ints, silent}
use Rattle.editor_tracks.proofs.InsertLaws.{ramp_again}
use Rattle.pcm_base.specs.declared.command.Call.TheVariants as call
use Rattle.pcm_base.specs.declared.command.Command.TheVariants as command
use Rattle.editor_core.proofs.studio.Studio.ramp.Goals as goal

pub returns-clause-took : goal.returns-clause-took
returns-clause-took g c =
    c.insert_given.ensures.took
    (call.Line (command.Ramp c.args.track c.args.at c.args.count c.args.start c.args.step)) silent
    (ramp_again c.args.track c.args.at c.args.count c.args.start c.args.step _ _ (omega (arith, ints))
    (omega (arith, ints)))
