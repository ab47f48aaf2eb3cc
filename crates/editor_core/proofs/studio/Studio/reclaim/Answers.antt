-- The files that went, and the answer.
use Rattle.editor_core.proofs.Common.{◌≡◌, ◌∙◌, sym, ap, subst, Some, Err, Ok, Core, core_of}
use Rattle.pcm_base.specs.Studio.{fault_sum}
use Rattle.editor_cleanup.specs.{Frees.Reclaims, Passes.DropsFirst}
use Rattle.editor_cleanup.proofs.ReclaimAnswers.{reclaim_stopped, reclaimed}
use Rattle.editor_cleanup.proofs.{ForgetPass.forgotten, ReclaimFaults.reclaim_fails}
use Rattle.pcm_base.specs.declared.refusal.Refusal.TheVariants as refusal
use Rattle.editor_core.proofs.studio.Studio.reclaim.Goals as goal

pub returns-in-Some : goal.returns-in-Some
returns-in-Some g c =
    let s = core_of c.args.self.now in
    reclaim_stopped g.S.Store s c.args.limit c.in-Some.faults c.in-Some.is c.requires (g.met.S.Store.may_fewer s.store)

pub returns-in-Ok : goal.returns-in-Ok
returns-in-Ok g c =
    let s = core_of c.args.self.now in
    let mid = core_of c.drop_first-count.new.self in
    let new = core_of c.forget_first.new.self in
    let most = c.unwrap_or.result in
    let count = c.drop_first-count.result.0 in
    let drops = subst (λ r. DropsFirst g.S.Store s most count r mid) c.in-Ok.is c.drop_first-count.ensures in
    let was = drops.removes in
    let at : new ≡ record s { store = mid.store; cache = mid.cache; counts = new.counts } =
    c.forget_first.ensures.fields ∙ (λ i. record (was.fields i) { counts = new.counts }) in
    subst (Reclaims g.S.Store s c.args.limit (Ok count)) (sym at)
    (reclaimed g.S.Store s c.args.limit c.in-Ok.field-0 most c.requires c.in_default.is mid new.counts
    c.unwrap_or.ensures count drops
    (forgotten s mid new was.ids was.end count was.next was.len was.fields c.forget_first.ensures))

pub returns-in-Err : goal.returns-in-Err
returns-in-Err g c =
    let s = core_of c.args.self.now in
    let mid = core_of c.drop_first-count.new.self in
    let new = core_of c.forget_first.new.self in
    let most = c.unwrap_or.result in
    let count = c.drop_first-count.result.0 in
    let drops = subst (λ r. DropsFirst g.S.Store s most count r mid) c.in-Err.is c.drop_first-count.ensures in
    let was = drops.removes in
    let kept = c.forget_first.ensures.fields in
    let at : new ≡ record s { store = mid.store; cache = mid.cache; counts = new.counts } =
    kept ∙ (λ i. record (was.fields i) { counts = new.counts }) in
    let halt = c.faults.ensures ∙ ap (λ (z : Core g.row.S.Denot).
    fault_sum (g.S.Store.read_fault_count z.store) (g.S.Store.change_fault_count z.store)) kept in
    subst (Reclaims g.S.Store s c.args.limit (Err refusal.DiskFault)) (sym (λ i. record (at i) { stopped = Some (halt i) }))
    (reclaim_fails g.S.Store s c.args.limit c.in-Err.field-0 most c.requires c.in_default.is mid new.counts
    c.unwrap_or.ensures count was
    (forgotten s mid new was.ids was.end count was.next was.len was.fields c.forget_first.ensures))
