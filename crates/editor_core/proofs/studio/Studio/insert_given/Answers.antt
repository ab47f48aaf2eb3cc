-- Samples that a command brings, put in, are a step.
use Rattle.editor_core.proofs.Common.{sym, refl, subst, ℕ, IfErr, after_err, exit_err, Done, brought, brought_by}
use Rattle.editor_core.proofs.Common.{brought_count, IsUndamaged, current_tracks, core_of, IsStill, Took, as_reply}
use Rattle.editor_core.proofs.Common.{with_sound, place_edit, NoTrackPlan, track_edit, track_refused, track_stopped}
use Rattle.editor_core.proofs.Common.{track_next, track_planned, no_plan_tells, known_took, planned_any}
use Rattle.editor_tracks.specs.{TrackEdits.IsTrackPlan}
use Rattle.editor_tracks.proofs.{InsertLaws.place_tells}
use Rattle.editor_core.proofs.studio.Studio.insert_given.Goals as goal

pub returns-in-Some-clause-took : goal.returns-in-Some-clause-took
returns-in-Some-clause-took g c = λ call sound line.
    let s = core_of c.args.self.now in
    let given = c.args.given.now in
    let e = place_edit c.args.place (brought_count given) in
    track_stopped g.S.Store s c.requires.studio call sound e given c.args.track c.args.marks.tag c.args.marks.more line
    c.in-Some.faults (g.met.S.Store.may_fewer s.store) c.requires.more c.in-Some.is

pub returns-in_err-planned-clause-still : goal.returns-in_err-planned-clause-still
returns-in_err-planned-clause-still g c =
    let s = core_of c.args.self.now in
    after_err (λ x. IfErr x (IsStill s s)) _ c.from_residual.result c.from_residual.ensures.1 (λ off. refl)

pub returns-in_err-planned-clause-took : goal.returns-in_err-planned-clause-took
returns-in_err-planned-clause-took g c = λ call sound line.
    let s = core_of c.args.self.now in
    let given = c.args.given.now in
    let e = place_edit c.args.place (brought_count given) in
    let why = c.in_err-planned.field-0.0 in
    let not = subst (λ (k : ℕ). NoTrackPlan (place_edit c.args.place k) c.args.track (current_tracks s.history) why)
    c.count_of.ensures.value c.in_err-planned.ensures.err in
    subst (λ x. Took g.S.Store s (with_sound call sound (as_reply (λ (n : ℕ). Done) x)) s) (sym (exit_err c.from_residual.result c.from_residual.ensures.1))
    (track_refused g.S.Store s c.requires.studio call sound e given c.args.track c.args.marks.tag c.args.marks.more line
    why (g.met.S.Store.may_fewer s.store) c.requires.more c.in_default.is not)

pub returns-in_err-planned-clause-valid : goal.returns-in_err-planned-clause-valid
returns-in_err-planned-clause-valid g c = λ held.
    let s = core_of c.args.self.now in
    let count = c.count_of.result in
    after_err (λ x. IfErr x IsUndamaged) _ c.from_residual.result c.from_residual.ensures.1
    (no_plan_tells (place_edit c.args.place count) c.args.track (current_tracks s.history) c.in_err-planned.field-0.0
    (λ len. place_tells c.args.place count len) c.in_err-planned.ensures.err)

pub carry_out-requires-clause-planned : goal.carry_out-requires-clause-planned
carry_out-requires-clause-planned g c = λ samples.
    let s = core_of c.args.self.now in
    let given = c.args.given.now in
    let p = c.in_ok-planned.planned in
    let plan = subst (λ (k : ℕ). IsTrackPlan (place_edit c.args.place k) k c.args.track s p) c.count_of.ensures.value
    c.in_ok-planned.ensures.plan in
    planned_any s p c.args.marks.tag c.args.marks.more (brought_by given) (brought given) samples
    (track_planned g.S.Store s c.requires.studio (place_edit c.args.place (brought_count given)) given c.args.track p
    plan c.in_ok-planned.ensures.tracks c.in_ok-planned.ensures.clip c.args.marks.tag c.args.marks.more
    c.requires.tag c.requires.counts)

pub carry_out-requires-clause-next : goal.carry_out-requires-clause-next
carry_out-requires-clause-next g c =
    let s = core_of c.args.self.now in
    let given = c.args.given.now in
    let p = c.in_ok-planned.planned in
    let plan = subst (λ (k : ℕ). IsTrackPlan (place_edit c.args.place k) k c.args.track s p) c.count_of.ensures.value
    c.in_ok-planned.ensures.plan in
    track_next g.S.Store s c.requires.studio (place_edit c.args.place (brought_count given)) given c.args.track p plan

pub returns-clause-took : goal.returns-clause-took
returns-clause-took g c = λ call sound line.
    let s = core_of c.args.self.now in
    let given = c.args.given.now in
    let e = place_edit c.args.place (brought_count given) in
    let p = c.in_ok-planned.planned in
    let plan = subst (λ (k : ℕ). IsTrackPlan (place_edit c.args.place k) k c.args.track s p) c.count_of.ensures.value
    c.in_ok-planned.ensures.plan in
    known_took g.S.Store s p c.args.marks.tag c.args.marks.more given c.carry_out.result
    (λ call sound. Took g.S.Store s (with_sound call sound (as_reply (λ (n : ℕ). Done) c.carry_out.result))
    (core_of c.carry_out.new.self)) c.carry_out.ensures.took c.carry_out.ensures.device call sound
    (track_edit g.S.Store s c.requires.studio call sound e given c.args.track c.args.marks.tag c.args.marks.more line p
    plan c.in_ok-planned.ensures.tracks c.in_ok-planned.ensures.clip)
