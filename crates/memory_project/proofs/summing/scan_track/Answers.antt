-- One column is the whole track.
use Rattle.std.proofs.Common.{ap, ◌∙◌}
use Rattle.editor_core.specs.Core.{core_of}
use Rattle.memory_project.specs.Sums.{first_column}
use Rattle.memory_project.proofs.SumLemmas.{scan_is, scan_looked, scan_wants}
use Rattle.pcm_base.specs.declared.answer.Reply.TheVariants as reply
use Rattle.memory_project.proofs.summing.scan_track.Goals as goal

pub want_of_memory-requires : goal.want_of_memory-requires
want_of_memory-requires g c =
    scan_wants g.S.Store (core_of c.args.studio.now) c.requires.sum c.args.len c.requires.len
    (core_of c.envelope.new.self) c.in-Err.reason c.in-Err.ensures.looks

pub returns-in-Ok-clause-looks : goal.returns-in-Ok-clause-looks
returns-in-Ok-clause-looks g c =
    scan_looked g.S.Store (core_of c.args.studio.now) c.requires.sum c.args.len c.requires.len
    (core_of c.envelope.new.self) (reply.Columns c.in-Ok.columns) c.in-Ok.ensures.looks

pub returns-in-Ok-clause-scan : goal.returns-in-Ok-clause-scan
returns-in-Ok-clause-scan g c =
    c.first_column.ensures ∙ ap first_column c.as_slice.ensures
    ∙ scan_is g.S.Store (core_of c.args.studio.now) c.requires.sum c.args.len c.requires.len
    (core_of c.envelope.new.self) c.in-Ok.columns c.in-Ok.ensures.looks
