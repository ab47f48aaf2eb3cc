-- What refuses the columns is the answer.
use Rattle.editor_core.proofs.Common.{Line, Took, after_err, core_of, quietly}
use Rattle.pcm_base.specs.declared.command.Command.TheVariants as command
use Rattle.editor_core.proofs.studio.Studio.envelope_reply.Goals as goal

pub returns-in_err-columns : goal.returns-in_err-columns
returns-in_err-columns g c =
    let s = core_of c.args.self.now in
    let new = core_of c.envelope.new.self in
    let call = Line (command.Envelope c.args.track c.args.from c.args.to c.args.columns) in
    after_err (λ r. Took g.S.Store s (quietly call r) new) _ c.from_residual.result c.from_residual.ensures.1
    c.in_err-columns.ensures.looks.took
