-- The track is valid, and its new layout is planned.
use Rattle.editor_core.proofs.Common.{◌≡◌, ◌∙◌, inr, refl, sym, ap, subst, ℕ, ◌≤◌, List, length, Some, IfErr, arith}
use Rattle.editor_core.proofs.Common.{after_err, Cell, AllHalfFull, layout_blocks, IsPlan, track_of, current_tracks}
use Rattle.editor_core.proofs.Common.{core_of, put_in, range_edit, NoTrackPlan, with_layout, current_track}
use Rattle.editor_core.proofs.Common.{no_such_track, test_fails}
use Rattle.pcm_base.specs.{Counters.blocks_of_edit, Edits.range_of}
use Rattle.clip_track.specs.Clips.{layout_cells}
use Rattle.editor_tracks.proofs.RangeLaws.{part_range}
use Rattle.editor_core.proofs.studio.Studio.planned_range.Given.{Over}
use Rattle.editor_core.proofs.studio.Studio.planned_range.Goals.{In_ok-old}
use Rattle.editor_core.proofs.studio.Studio.planned_range.Goals as goal

found : (g : Over) (c : In_ok-old g)
    → track_of c.args.track (current_tracks (core_of c.args.self.now).history) ≡ Some c.in_ok-old.old.now
found g c = ap (track_of c.args.track) (sym c.current-project.ensures) ∙ c.in_ok-old.ensures

pub invariant_of-planner-clause-some : goal.invariant_of-planner-clause-some
invariant_of-planner-clause-some g c = omega (arith, c.requires.format.block_least, c.block_size.ensures.value)

pub edit_range-requires : goal.edit_range-requires
edit_range-requires g c = record {
  half_full = subst (λ (m : ℕ). AllHalfFull m c.in_ok-old.old.now.layout) (sym c.block_size.ensures.value)
      (current_track g.S.Store (core_of c.args.self.now) c.requires c.args.track c.in_ok-old.old.now
      (found g (goal.at.edit_range-requires g c).In_ok-old)).half_full;
}

pub returns-in_err-old-clause-err : goal.returns-in_err-old-clause-err
returns-in_err-old-clause-err g c =
    let old = current_tracks (core_of c.args.self.now).history in
    after_err (λ x. IfErr x (NoTrackPlan (range_edit c.args.edit c.args.from c.args.to) c.args.track old)) _
    c.from_residual.result c.from_residual.ensures.1
    (no_such_track (range_edit c.args.edit c.args.from c.args.to) c.args.track old c.in_err-old.field-0.0 c.in_err-old.ensures.0
    (ap (track_of c.args.track) (sym c.current-project.ensures) ∙ c.in_err-old.ensures.1))

pub returns-in_err-plan-clause-err : goal.returns-in_err-plan-clause-err
returns-in_err-plan-clause-err g c =
    let old = current_tracks (core_of c.args.self.now).history in
    after_err (λ x. IfErr x (NoTrackPlan (range_edit c.args.edit c.args.from c.args.to) c.args.track old)) _
    c.from_residual-in_err-plan.result c.from_residual-in_err-plan.ensures.1
    (test_fails (range_edit c.args.edit c.args.from c.args.to) c.args.track old c.in_ok-old.old.now c.in_err-plan.field-0.0
    (found g (goal.at.returns-in_err-plan-clause-err g c).In_ok-old) c.in_err-plan.ensures.tests)

pub returns-in_err-planned-clause-err : goal.returns-in_err-planned-clause-err
returns-in_err-planned-clause-err g c =
    after_err (λ x. IfErr x (NoTrackPlan (range_edit c.args.edit c.args.from c.args.to) c.args.track
    (current_tracks (core_of c.args.self.now).history))) _ c.from_residual-in_err-planned.result
    c.from_residual-in_err-planned.ensures.1 (inr refl)

pub returns-clause-plan : goal.returns-clause-plan
returns-clause-plan g c =
    let s = core_of c.args.self.now in
    let t = c.in_ok-old.old.now in
    let plan = c.in_ok-plan.plan in
    let size = c.block_size.ensures.value in
    let found = found g (goal.at.returns-clause-plan g c).In_ok-old in
    let layout = (current_track g.S.Store s c.requires c.args.track t found).layout in
    record {
      track = t;
      found = found;
      tests = c.in_ok-plan.ensures.tests;
      plan = plan;
      is_plan = subst (λ (m : ℕ). IsPlan (record { block_size = m; next = s.next_block }) (layout_blocks t.layout)
          0 plan) size c.in_ok-plan.ensures.plan;
      keeps = c.in_ok-plan.ensures.kept;
      means = c.in_ok-plan.ensures.cells;
      layout = c.in_ok-planned.ensures.layout;
      few = λ src. subst (λ (m : ℕ). length plan.makes ≤ blocks_of_edit c.args.edit m
          (range_of c.args.from c.args.to (layout_cells src t.layout))) size
          (subst (λ (cells : List Cell). length plan.makes ≤ blocks_of_edit c.args.edit c.block_size.result cells)
          (part_range c.args.from c.args.to t.layout src layout c.in_ok-plan.ensures.tests)
          (c.in_ok-plan.ensures.few_made src));
      is = c.in_ok-planned.ensures.point ∙ ap (put_in (with_layout s.next_layout t plan.layout))
          c.current-project.ensures;
      makes_is = c.in_ok-planned.ensures.makes;
      after_is = c.in_ok-planned.ensures.next;
      layouts_is = c.in_ok-planned.ensures.layouts;
      kept_is = c.in_ok-planned.ensures.kept;
    }
