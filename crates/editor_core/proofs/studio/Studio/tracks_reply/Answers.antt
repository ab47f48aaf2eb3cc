-- What refuses the tracks is the answer.
use Rattle.editor_core.proofs.Common.{Line, Took, after_err, core_of, quietly}
use Rattle.pcm_base.specs.declared.command.Command.TheVariants as command
use Rattle.editor_core.proofs.studio.Studio.tracks_reply.Goals as goal

pub returns-in_err-tracks : goal.returns-in_err-tracks
returns-in_err-tracks g c =
    let s = core_of c.args.self.now in
    after_err (λ r. Took g.S.Store s (quietly (Line command.Tracks) r) s) _ c.from_residual.result
    c.from_residual.ensures.1 c.in_err-tracks.ensures.took
