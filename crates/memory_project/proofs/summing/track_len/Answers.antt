-- There is no answer for want of memory alone.
use Rattle.editor_core.specs.Core.{core_of}
use Rattle.memory_project.proofs.SumLemmas.{tracks_want}
use Rattle.memory_project.proofs.summing.track_len.Goals as goal

pub want_of_memory-requires : goal.want_of_memory-requires
want_of_memory-requires g c =
    tracks_want g.S.Store (core_of c.args.studio.now) c.requires c.in-Err.reason c.in-Err.ensures.why
    (c.in-Err.ensures.took.step c.requires.held)
