-- A fresh project, opened.
use Rattle.std.proofs.Common.{length}
use Rattle.memory_disk.specs.{Histories.image_since, Histories.reads_is_image, History.reads_of}
use Rattle.editor_core.specs.Core.{core_of}
use Rattle.memory_project.proofs.OpenLemmas.{is_fresh, opening_wants}
use Rattle.memory_project.proofs.fresh.fresh_studio.Goals as goal

pub returns-in-Ok : goal.returns-in-Ok
returns-in-Ok c =
    let e = c.in-Ok.ensures in
    let history = c.in-Ok.studio.reader.store.log.history in
    is_fresh _ c.args.project.now c.requires c.in_ok-store.store c.in_ok-store.ensures (core_of c.in-Ok.studio)
    (record {
      opens = e.opens;
      studio = e.studio;
      new = e.fresh;
      at_rest = e.at_rest;
      held = e.held;
      keeps = e.keeps;
      stays_honest = e.stays_honest;
      reads = e.reads;
      changed = e.changed;
    }) (image_since history (length history) (reads_of history) (reads_is_image history))

pub want_of_memory-requires : goal.want_of_memory-requires
want_of_memory-requires c =
    let e = c.in-Err.ensures in
    opening_wants _ c.args.project.now c.requires c.in_ok-store.store c.in_ok-store.ensures c.in-Err._store
    c.in-Err.fault e.honest e.cause e.changed
