-- A cut is a step.
use Rattle.editor_core.proofs.Common.{ℕ, IfErr, after_err, Done, Line, IsUndamaged, Nothing, brought, brought_by}
use Rattle.editor_core.proofs.Common.{core_of, cut_line, Took, quietly, silent, as_reply, with_sound, known_took}
use Rattle.editor_core.proofs.Common.{planned_any}
use Rattle.editor_tracks.proofs.{CutLaws.no_cut_tells, CutRefusals.cut_refused, CutRefusals.cut_stopped}
use Rattle.editor_tracks.proofs.{CutSteps.cut_edit, CutSteps.cut_planned}
use Rattle.editor_core.proofs.studio.Studio.cut_range.Goals as goal

pub returns-in-Some-clause-took : goal.returns-in-Some-clause-took
returns-in-Some-clause-took g c =
    let s = core_of c.args.self.now in
    cut_stopped g.S.Store s c.requires c.args.removing c.args.range
    (g.met.S.Store.may_fewer s.store) c.in-Some.faults c.in-Some.is

pub returns-in_err-planned-clause-took : goal.returns-in_err-planned-clause-took
returns-in_err-planned-clause-took g c =
    let s = core_of c.args.self.now in
    let call = Line (cut_line c.args.removing c.args.range) in
    let why = c.in_err-planned.field-0.0 in
    after_err (λ x. Took g.S.Store s (quietly call (as_reply (λ (n : ℕ). Done) x)) s) _ c.from_residual.result
    c.from_residual.ensures.1
    (cut_refused g.S.Store s c.requires c.args.removing c.args.range
    (g.met.S.Store.may_fewer s.store) why c.in_default.is c.in_err-planned.ensures.err)

pub returns-in_err-planned-clause-valid : goal.returns-in_err-planned-clause-valid
returns-in_err-planned-clause-valid g c = λ held.
    let s = core_of c.args.self.now in
    after_err (λ x. IfErr x IsUndamaged) _ c.from_residual.result c.from_residual.ensures.1
    (no_cut_tells c.args.range s c.in_err-planned.field-0.0 c.in_err-planned.ensures.err)

pub carry_out-requires-clause-planned : goal.carry_out-requires-clause-planned
carry_out-requires-clause-planned g c = λ samples.
    let s = core_of c.args.self.now in
    let planned = c.in_ok-planned.ensures in
    planned_any s c.in_ok-planned.planned 0 0 (brought_by Nothing) (brought Nothing) samples
    (cut_planned g.S.Store s c.requires c.args.removing c.args.range (g.met.S.Store.may_fewer s.store) c.in_default.is
    c.in_ok-planned.planned planned.plan planned.tracks planned.layouts)

pub carry_out-requires-clause-next : goal.carry_out-requires-clause-next
carry_out-requires-clause-next g c = c.in_ok-planned.ensures.plan.laid.after_is

pub returns-clause-took : goal.returns-clause-took
returns-clause-took g c =
    let s = core_of c.args.self.now in
    let call = Line (cut_line c.args.removing c.args.range) in
    let planned = c.in_ok-planned.ensures in
    known_took g.S.Store s c.in_ok-planned.planned 0 0 Nothing c.carry_out.result
    (λ call sound. Took g.S.Store s (with_sound call sound (as_reply (λ (n : ℕ). Done) c.carry_out.result))
    (core_of c.carry_out.new.self)) c.carry_out.ensures.took c.carry_out.ensures.device call silent
    (cut_edit g.S.Store s c.requires c.args.removing c.args.range (g.met.S.Store.may_fewer s.store) c.in_default.is
    c.in_ok-planned.planned planned.plan planned.tracks planned.layouts)
