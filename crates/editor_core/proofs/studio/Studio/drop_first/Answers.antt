-- The removals and then the syncs.
use Rattle.editor_core.proofs.Common.{ap, subst, IsSome, Counts, Core, core_of}
use Rattle.editor_cleanup.specs.Passes.{RemovesFirst}
use Rattle.editor_cleanup.proofs.RemoveThenSync.{drops_all, drops_fail}
use Rattle.editor_core.proofs.studio.Studio.drop_first.Goals as goal

pub sync_first-requires : goal.sync_first-requires
sync_first-requires g c = λ id some.
    c.requires.high id (subst (λ (k : Counts). IsSome (k id))
    (ap (λ (z : Core g.row.S.Denot). z.counts) c.remove_first-count.ensures.fields) some)

pub returns-in-Ok : goal.returns-in-Ok
returns-in-Ok g c =
    let s = core_of c.args.self.now in
    let mid = core_of c.remove_first-count.new.self in
    let count = c.remove_first-count.result.0 in
    drops_all g.S.Store s c.args.most count c.in-Ok.field-0 mid (core_of c.sync_first.new.self)
    (subst (λ r. RemovesFirst g.S.Store s 1 c.args.most count r mid) c.in-Ok.is c.remove_first-count.ensures)
    c.sync_first.result c.sync_first.ensures

pub returns-in-Err : goal.returns-in-Err
returns-in-Err g c =
    let s = core_of c.args.self.now in
    let mid = core_of c.remove_first-count.new.self in
    let count = c.remove_first-count.result.0 in
    drops_fail g.S.Store s c.args.most count c.in-Err.fault mid
    (subst (λ r. RemovesFirst g.S.Store s 1 c.args.most count r mid) c.in-Err.is c.remove_first-count.ensures)
