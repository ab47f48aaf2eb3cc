-- The journal's header and the files, and then what they amount to.
use Rattle.editor_recovery.proofs.Common.{◌∙◌}
use Rattle.editor_recovery.proofs.{Counted.causes_turn, Resting.changed_after, Resting.durable_after}
use Rattle.editor_recovery.proofs.opening.open_parts.Goals as goal

pub returns-in-Ok-clause-opens : goal.returns-in-Ok-clause-opens
returns-in-Ok-clause-opens g c = λ tells.
    let read = c.in-Ok.ensures.reads tells in
    (rw c.read_disk.ensures.reads_same at
    (c.find_parts.ensures.opens (c.read_disk.ensures.changed.tells ∙ tells))) read.1 read.2 read.0

pub returns-in-Ok-clause-at_rest : goal.returns-in-Ok-clause-at_rest
returns-in-Ok-clause-at_rest g c = λ tells.
    let same = c.read_disk.ensures.reads_same in
    rw same at (c.find_parts.ensures.at_rest (c.read_disk.ensures.changed.tells ∙ tells) c.in-Ok.ensures.durable
    c.in-Ok.ensures.other (rw same (c.in-Ok.ensures.reads tells).0))

pub returns-in-Ok-clause-durable : goal.returns-in-Ok-clause-durable
returns-in-Ok-clause-durable g c = durable_after c.read_disk.new.store c.find_parts.new.store 0 c.find_parts.result
    c.find_parts.ensures.kept c.in-Ok.ensures.durable

pub returns-in-Ok-clause-other : goal.returns-in-Ok-clause-other
returns-in-Ok-clause-other g c = durable_after c.read_disk.new.store c.find_parts.new.store 1 c.find_parts.result
    c.find_parts.ensures.kept c.in-Ok.ensures.other

pub returns-in-Ok-clause-cause : goal.returns-in-Ok-clause-cause
returns-in-Ok-clause-cause g c = causes_turn g.S.Store c.args.store.now c.read_disk.new.store c.find_parts.new.store
    c.find_parts.result c.in-Ok.ensures.cause c.find_parts.ensures.cause

pub returns-in-Ok-clause-changed : goal.returns-in-Ok-clause-changed
returns-in-Ok-clause-changed g c = changed_after c.read_disk.ensures.changed c.find_parts.ensures.kept
