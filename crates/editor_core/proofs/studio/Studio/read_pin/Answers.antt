-- Hearing a pin is a step that changes nothing.
use Rattle.editor_core.proofs.Common.{true≢false, ◌∙◌, sym, ap, subst, ◌+◌, ◌^◌, ◌<◌, ◌≤◌, List, length, Some, Err}
use Rattle.editor_core.proofs.Common.{err_from_is_err_and, after_err, Frames, ReadPin, Refusal, sources_of, core_of}
use Rattle.editor_core.proofs.Common.{Pin, Sees, LacksPin, MayFind, as_many, pin_may_read, pin_whole, idle_sees}
use Rattle.editor_core.proofs.Common.{read_sees, unread_sees, seen}
use Rattle.std.specs.Prelude.{IfOk}
use Rattle.editor_views.proofs.MixViews.{read_stopped, read_lacks, read_done, read_failed}
use Rattle.pcm_base.specs.declared.refusal.Refusal.TheVariants as refusal
use Rattle.editor_core.proofs.KeptPages.{of_pin}
use Rattle.editor_core.proofs.studio.Studio.read_pin.Given.{Over}
use Rattle.editor_core.proofs.studio.Studio.read_pin.Goals.{In_ok-point}
use Rattle.editor_core.proofs.studio.Studio.read_pin.Goals as goal

-- the pin's project
found : (g : Over) (c : In_ok-point g) → MayFind c.args.self.now.pins.items c.args.pin (Some c.in_ok-point.point.now)
found g c = subst (λ (ps : List Pin). MayFind ps c.args.pin (Some c.in_ok-point.point.now)) c.deref.ensures.value
    c.in_ok-point.ensures

pub returns-in-Some-clause-seen : goal.returns-in-Some-clause-seen
returns-in-Some-clause-seen g c =
    let s = core_of c.args.self.now in
    let fewer = g.met.S.Store.may_fewer s.store in
    let count = length c.args.out.now in
    idle_sees g.S.Store s (ReadPin c.args.pin c.args.from count) Frames c.args.out.now fewer
    (refusal.Stopped c.in-Some.faults) tt tt
    (read_stopped g.S.Store s c.requires fewer c.args.pin c.args.from count c.in-Some.faults c.in-Some.is)

pub returns-in_err-point-clause-seen : goal.returns-in_err-point-clause-seen
returns-in_err-point-clause-seen g c =
    let p = err_from_is_err_and c.from_residual.result c.from_residual.ensures.1 in
    let s = core_of c.args.self.now in
    let fewer = g.met.S.Store.may_fewer s.store in
    let count = length c.args.out.now in
    subst (λ r. Sees g.S.Store s (seen (ReadPin c.args.pin c.args.from count) Frames c.args.out.now r) s)
    (sym (p.1 ∙ ap Err (p.2 ∙ c.in_err-point.ensures.0)))
    (idle_sees g.S.Store s (ReadPin c.args.pin c.args.from count) Frames c.args.out.now fewer
    (refusal.NoPin c.args.pin) tt tt
    (read_lacks g.S.Store s c.requires fewer c.args.pin c.args.from count c.in_default.is
    (subst (LacksPin c.args.pin) c.deref.ensures.value c.in_err-point.ensures.1)))

pub returns-in_err-point-clause-limit : goal.returns-in_err-point-clause-limit
returns-in_err-point-clause-limit g c =
    after_err (λ r. IfOk r (λ n. 0 < n → c.args.from + n ≤ 2 ^ 32)) _ c.from_residual.result c.from_residual.ensures.1
    tt

pub read_mix-requires-clause-named : goal.read_mix-requires-clause-named
read_mix-requires-clause-named g c =
    pin_may_read g.S.Store (core_of c.args.self.now) c.requires c.args.pin c.in_ok-point.point.now
    (found g (goal.at.read_mix-requires-clause-named g c).In_ok-point)

pub returns-in-Ok-clause-seen : goal.returns-in-Ok-clause-seen
returns-in-Ok-clause-seen g c =
    let s = core_of c.args.self.now in
    let fewer = g.met.S.Store.may_fewer s.store in
    let count = length c.args.out.now in
    let store = c.read_mix.new.reader.store in
    let point = c.in_ok-point.point.now in
    let found = found g (goal.at.returns-in-Ok-clause-seen g c).In_ok-point in
    let cache = c.read_mix.new.reader.cache in
    let keeps = of_pin g.S.Store s c.requires cache point c.args.pin found c.in-Ok.ensures.reads.cache in
    let n = c.in-Ok.count in
    let src = sources_of (g.S.Store.reads s.store) in
    read_sees g.S.Store s (ReadPin c.args.pin c.args.from count) store c.in-Ok.ensures.reads.kept cache Frames
    c.read_mix.new.out n c.in-Ok.ensures.fits
    (read_done g.S.Store s c.requires fewer c.args.pin c.args.from count c.in_default.is point found store
    c.in-Ok.ensures.reads.kept cache keeps _ c.in-Ok.ensures.reads.faults
    (λ held. c.in-Ok.ensures.read held.tells (pin_whole g.S.Store s c.requires c.args.pin point found held)
    ∙ as_many src point c.args.from count n c.in-Ok.ensures.count (c.read_mix.ensures.len src)))

pub returns-in-Err-clause-seen : goal.returns-in-Err-clause-seen
returns-in-Err-clause-seen g c =
    let s = core_of c.args.self.now in
    let fewer = g.met.S.Store.may_fewer s.store in
    let count = length c.args.out.now in
    let store = c.read_mix.new.reader.store in
    let point = c.in_ok-point.point.now in
    let found = found g (goal.at.returns-in-Err-clause-seen g c).In_ok-point in
    let cache = c.read_mix.new.reader.cache in
    let keeps = of_pin g.S.Store s c.requires cache point c.args.pin found c.in-Err.ensures.reads.cache in
    let fault = c.in-Err.fault in
    subst (λ (z : Refusal). Sees g.S.Store s
    (seen (ReadPin c.args.pin c.args.from count) Frames c.read_mix.new.out (Err z))
    (record s { store = store; cache = cache })) (sym c.into.ensures)
    (unread_sees g.S.Store s
    (ReadPin c.args.pin c.args.from count) store c.in-Err.ensures.reads.kept cache Frames c.read_mix.new.out fault
    (λ held. c.in-Err.ensures.valid held.tells (pin_whole g.S.Store s c.requires c.args.pin point found held))
    (read_failed g.S.Store s c.requires fewer c.args.pin c.args.from count c.in_default.is point found store
    c.in-Err.ensures.reads.kept cache keeps fault c.in-Err.ensures.reads.faults c.in-Err.ensures.reads.damaged))

pub returns-in_err-point-clause-hit : goal.returns-in_err-point-clause-hit
returns-in_err-point-clause-hit g c = λ going has.
    absurd (has.there (subst (LacksPin c.args.pin) c.deref.ensures.value c.in_err-point.ensures.1))

pub returns-in-Ok-clause-hit : goal.returns-in-Ok-clause-hit
returns-in-Ok-clause-hit g c = λ going has.
    c.in-Ok.ensures.hit (has.heard c.in_ok-point.point.now (found g (goal.at.returns-in-Ok-clause-hit g c).In_ok-point))

pub returns-in-Err-clause-hit : goal.returns-in-Err-clause-hit
returns-in-Err-clause-hit g c = λ going has.
    absurd (true≢false (sym (c.in-Err.ensures.hit (has.heard c.in_ok-point.point.now
    (found g (goal.at.returns-in-Err-clause-hit g c).In_ok-point))).0))
