-- Samples put in at a place are a step.
use Rattle.editor_core.proofs.Common.{refl, silent}
use Rattle.editor_tracks.proofs.InsertLaws.{put_call}
use Rattle.pcm_base.specs.declared.command.Call.TheVariants as call
use Rattle.pcm_base.specs.declared.command.Command.TheVariants as command
use Rattle.block_writer.specs.declared.given.Given.TheVariants as given
use Rattle.editor_core.proofs.studio.Studio.put.Goals as goal

pub returns-clause-took : goal.returns-clause-took
returns-clause-took g c =
    c.insert_given.ensures.took (call.Line (command.Put c.args.track c.args.at c.args.samples.now)) silent
    (put_call c.args.samples.now (given.Samples c.args.samples) refl refl c.args.track c.args.at)
