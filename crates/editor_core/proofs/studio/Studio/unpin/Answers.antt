-- Letting a pin go is a step.
use Rattle.editor_core.proofs.Common.{refl, sym, subst, List, Err, core_of, Pin, Took, quietly}
use Rattle.pcm_base.specs.{declared.command.Call.TheVariants.Unpin, declared.refusal.Refusal.TheVariants.NoPin}
use Rattle.editor_views.proofs.UnpinSteps.{pin_uses, unpinned, unpin_lacks}
use Rattle.editor_core.proofs.studio.Studio.unpin.Goals as goal

pub returns-in_default-clause-took : goal.returns-in_default-clause-took
returns-in_default-clause-took g c =
    let s = core_of c.args.self.now in
    subst (λ (ps : List Pin). Took g.S.Store s (quietly (Unpin c.args.pin) (Err (NoPin c.args.pin)))
    (record s { pins = ps })) (sym c.in_default.ensures.0)
    (unpin_lacks g.S.Store s c.requires c.args.pin (g.met.S.Store.may_fewer s.store) c.in_default.ensures.1)

pub returns-in_default-clause-unpinned : goal.returns-in_default-clause-unpinned
returns-in_default-clause-unpinned g c =
    let s = core_of c.args.self.now in
    (refl, c.in_default.ensures.1, (λ i. record s { pins = c.in_default.ensures.0 i }))

pub leave_point-requires : goal.leave_point-requires
leave_point-requires g c =
    pin_uses g.S.Store (core_of c.args.self.now) c.requires c.args.pin c.take_pin.new.pins.items c.in-Some.gone
    c.in-Some.ensures c.args.self.now.tally refl refl

pub returns-clause-took : goal.returns-clause-took
returns-clause-took g c =
    let s = core_of c.args.self.now in
    unpinned g.S.Store s c.requires c.args.pin c.take_pin.new.pins.items c.in-Some.gone c.in-Some.ensures
    c.args.self.now.tally c.leave_point.new.self refl refl c.leave_point.ensures (g.met.S.Store.may_fewer s.store)

pub returns-clause-unpinned : goal.returns-clause-unpinned
returns-clause-unpinned g c = ((c.in-Some.gone, c.in-Some.ensures), refl)
