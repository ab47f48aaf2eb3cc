-- A project that was made on an empty disk.
use Rattle.std.proofs.Common.{refl}
use Rattle.memory_project.proofs.FreshLemmas.{is_made, making_wants}
use Rattle.memory_project.proofs.disk.made_disk.Goals as goal

pub returns-in-Ok : goal.returns-in-Ok
returns-in-Ok c =
    let e = c.in-Ok.ensures in
    let empty = c.in_ok-store.ensures in
    is_made _ c.args.project.now c.requires c.in_ok-store.store c.create.new.store empty e.changed
    (e.honest empty.honest) (e.done refl).0 (e.done refl).1 (e.journal refl)

pub want_of_memory-requires : goal.want_of_memory-requires
want_of_memory-requires c =
    let e = c.in-Err.ensures in
    making_wants _ c.args.project.now c.requires c.in_ok-store.store c.create.new.store c.in_ok-store.ensures e.changed
    c.in-Err.fault (e.answer refl) e.cause
