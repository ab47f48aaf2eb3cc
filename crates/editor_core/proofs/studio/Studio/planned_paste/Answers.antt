-- The tracks of the run are half full, and each has at most one plan.
use Rattle.editor_core.proofs.Common.{◌≡◌, ◌∙◌, sym, ap, subst, ℕ, ◌≤◌, length, List, Some, Clip, Item}
use Rattle.editor_core.proofs.Common.{AllTracksHalfFull, layouts, track_of, current_tracks, run_of, core_of}
use Rattle.editor_core.proofs.Common.{run_half_full}
use Rattle.edit_ops.specs.{Placing.SumsFit}
use Rattle.editor_tracks.proofs.{PasteLaws.pastes_few, PasteLaws.sums_fit}
use Rattle.pcm_base.specs.Edits.{placed}
use Rattle.editor_core.proofs.studio.Studio.planned_paste.Given.{Over}
use Rattle.editor_core.proofs.studio.Studio.planned_paste.Goals.{After-deref}
use Rattle.editor_core.proofs.studio.Studio.planned_paste.Goals as goal

-- the track, and its run
run_is : (g : Over) (c : After-deref g)
    → (track_of c.args.track (current_tracks (core_of c.args.self.now).history) ≡ Some c.in_ok-track.field-0.now)
    × (layouts c.deref.result.now ≡ run_of c.args.track (current_tracks (core_of c.args.self.now).history))
run_is g c = (
  ap (track_of c.args.track) (sym c.current-project.ensures) ∙ c.in_ok-track.ensures,
  ap layouts c.deref.ensures.value ∙ c.in_ok-run.ensures ∙ ap (run_of c.args.track) c.current-project.ensures,
)

pub paste-requires-clause-half_full : goal.paste-requires-clause-half_full
paste-requires-clause-half_full g c =
    let s = core_of c.args.self.now in
    let run = run_is g (goal.at.paste-requires-clause-half_full g c).After-deref in
    subst (λ (m : ℕ). AllTracksHalfFull m (layouts c.deref.result.now)) (sym c.block_size.ensures.value)
    (subst (AllTracksHalfFull s.block_size) (sym run.1)
    (run_half_full g.S.Store s c.requires.studio c.args.track c.in_ok-track.field-0.now run.0))

pub paste-requires-clause-sums : goal.paste-requires-clause-sums
paste-requires-clause-sums g c = λ x e.
    let s = core_of c.args.self.now in
    let run = run_is g (goal.at.paste-requires-clause-sums g c).After-deref in
    let same : c.in-Some.clip ≡ x = cc in
    subst (λ (strips : List (List Item)). SumsFit c.args.at strips (layouts c.deref.result.now)) same
    (subst (SumsFit c.args.at c.in-Some.clip) (sym run.1)
    (sums_fit g.S.Store s c.requires.studio c.args.track c.args.at c.in_ok-track.field-0.now run.0 c.requires.in_form
    c.in-Some.clip c.in-Some.is))

pub planned_run-requires-clause-fits : goal.planned_run-requires-clause-fits
planned_run-requires-clause-fits g c =
    let s = core_of c.args.self.now in
    let strips = c.in-Some.clip in
    let run : layouts c.deref.result.now ≡ run_of c.args.track c.current-project.result.now =
    ap layouts c.deref.ensures.value ∙ c.in_ok-run.ensures in
    subst (λ (z : List (List Clip)). length c.in_ok-plans.plans ≤ length z) run
    (pastes_few (placed c.args.placing c.args.at) (record { block_size = c.block_size.result; next = s.next_block })
    (length strips) strips (layouts c.deref.result.now) c.in_ok-plans.plans c.in_ok-plans.ensures.plans)
