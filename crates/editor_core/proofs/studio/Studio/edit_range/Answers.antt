-- An edit of a range is a step.
use Rattle.editor_core.proofs.Common.{ℕ, IfErr, arith, after_err, Done, Line, Nothing, brought, brought_by, IsUndamaged}
use Rattle.editor_core.proofs.Common.{current_tracks, core_of, range_edit, Took, quietly, silent, as_reply, with_sound}
use Rattle.editor_core.proofs.Common.{track_edit, track_refused, track_stopped, track_next, track_planned}
use Rattle.editor_core.proofs.Common.{no_plan_tells, known_took, planned_any}
use Rattle.pcm_base.specs.{Shape.range_line}
use Rattle.editor_tracks.proofs.{RangeLaws.range_call}
use Rattle.editor_state.proofs.Refusals.DamageTests.{range_tells}
use Rattle.editor_core.proofs.studio.Studio.edit_range.Goals as goal

pub returns-in-Some-clause-took : goal.returns-in-Some-clause-took
returns-in-Some-clause-took g c =
    let s = core_of c.args.self.now in
    let e = range_edit c.args.edit c.args.from c.args.to in
    let line = range_call c.args.edit c.args.track c.args.from c.args.to in
    track_stopped g.S.Store s c.requires (Line (range_line c.args.edit c.args.track c.args.from c.args.to)) silent e
    Nothing c.args.track 0 0 line c.in-Some.faults (g.met.S.Store.may_fewer s.store) (omega arith) c.in-Some.is

pub returns-in_err-planned-clause-took : goal.returns-in_err-planned-clause-took
returns-in_err-planned-clause-took g c =
    let s = core_of c.args.self.now in
    let e = range_edit c.args.edit c.args.from c.args.to in
    let call = Line (range_line c.args.edit c.args.track c.args.from c.args.to) in
    let line = range_call c.args.edit c.args.track c.args.from c.args.to in
    let why = c.in_err-planned.field-0.0 in
    after_err (λ x. Took g.S.Store s (quietly call (as_reply (λ (n : ℕ). Done) x)) s) _ c.from_residual.result
    c.from_residual.ensures.1
    (track_refused g.S.Store s c.requires call silent e Nothing c.args.track 0 0 line why
    (g.met.S.Store.may_fewer s.store) (omega arith) c.in_default.is c.in_err-planned.ensures.err)

pub returns-in_err-planned-clause-valid : goal.returns-in_err-planned-clause-valid
returns-in_err-planned-clause-valid g c = λ held.
    let s = core_of c.args.self.now in
    let e = range_edit c.args.edit c.args.from c.args.to in
    after_err (λ x. IfErr x IsUndamaged) _ c.from_residual.result c.from_residual.ensures.1
    (no_plan_tells e c.args.track (current_tracks s.history) c.in_err-planned.field-0.0
    (λ len. range_tells c.args.from c.args.to len) c.in_err-planned.ensures.err)

pub carry_out-requires-clause-planned : goal.carry_out-requires-clause-planned
carry_out-requires-clause-planned g c = λ samples.
    let s = core_of c.args.self.now in
    let e = range_edit c.args.edit c.args.from c.args.to in
    let planned = c.in_ok-planned.ensures in
    planned_any s c.in_ok-planned.planned 0 0 (brought_by Nothing) (brought Nothing) samples
    (track_planned g.S.Store s c.requires e Nothing c.args.track c.in_ok-planned.planned planned.plan planned.tracks
    planned.clip 0 0 (omega arith) (λ some. absurd (omega (arith, some))))

pub carry_out-requires-clause-next : goal.carry_out-requires-clause-next
carry_out-requires-clause-next g c =
    let s = core_of c.args.self.now in
    track_next g.S.Store s c.requires (range_edit c.args.edit c.args.from c.args.to) Nothing c.args.track
    c.in_ok-planned.planned c.in_ok-planned.ensures.plan

pub returns-clause-took : goal.returns-clause-took
returns-clause-took g c =
    let s = core_of c.args.self.now in
    let e = range_edit c.args.edit c.args.from c.args.to in
    let call = Line (range_line c.args.edit c.args.track c.args.from c.args.to) in
    let line = range_call c.args.edit c.args.track c.args.from c.args.to in
    let planned = c.in_ok-planned.ensures in
    known_took g.S.Store s c.in_ok-planned.planned 0 0 Nothing c.carry_out.result
    (λ call sound. Took g.S.Store s (with_sound call sound (as_reply (λ (n : ℕ). Done) c.carry_out.result))
    (core_of c.carry_out.new.self)) c.carry_out.ensures.took c.carry_out.ensures.device call silent
    (track_edit g.S.Store s c.requires call silent e Nothing c.args.track 0 0 line c.in_ok-planned.planned planned.plan
    planned.tracks planned.clip)
