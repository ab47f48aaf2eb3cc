-- A line was carried out, or there was no memory for it.
use Rattle.editor_core.specs.Core.{core_of}
use Rattle.memory_project.proofs.LineLemmas.{asked_wants, asked_went}
use Rattle.memory_project.proofs.lines.run_line.Goals as goal

pub returns-in-Ok-clause-went : goal.returns-in-Ok-clause-went
returns-in-Ok-clause-went g c =
    asked_went g.S.Store (core_of c.args.studio.now) (core_of c.carry_line.new.studio) c.args.command.now c.requires
    c.in-Ok.ensures

pub want_of_memory-requires : goal.want_of_memory-requires
want_of_memory-requires g c =
    (asked_wants g.S.Store (core_of c.args.studio.now) (core_of c.carry_line.new.studio) c.args.command.now c.requires
    c.in-Err.reason c.in-Err.ensures).0

pub returns-in-Err-clause-wants : goal.returns-in-Err-clause-wants
returns-in-Err-clause-wants g c =
    (asked_wants g.S.Store (core_of c.args.studio.now) (core_of c.carry_line.new.studio) c.args.command.now c.requires
    c.in-Err.reason c.in-Err.ensures).1
