-- The tracks of the run are half full, and each has at most one plan.
use Rattle.editor_core.proofs.Common.{◌≡◌, ◌∙◌, sym, ap, subst, ℕ, ◌≤◌, length, List, Some, Clip, AllTracksHalfFull}
use Rattle.editor_core.proofs.Common.{layouts, track_of, current_tracks, run_of, core_of, run_half_full}
use Rattle.editor_tracks.proofs.CutLaws.{cuts_few}
use Rattle.pcm_base.specs.Edits.{removed}
use Rattle.editor_core.proofs.studio.Studio.planned_cut.Goals as goal

pub cut_range-requires : goal.cut_range-requires
cut_range-requires g c =
    let s = core_of c.args.self.now in
    let id = c.args.range.track in
    let project = c.current-project.ensures in
    let found : track_of id (current_tracks s.history) ≡ Some c.in_ok-track.field-0.now =
    ap (track_of id) (sym project) ∙ c.in_ok-track.ensures in
    let run : layouts c.deref.result.now ≡ run_of id (current_tracks s.history) =
    ap layouts c.deref.ensures.value ∙ c.in_ok-run.ensures ∙ ap (run_of id) project in
    record {
      half_full = subst (λ (m : ℕ). AllTracksHalfFull m (layouts c.deref.result.now)) (sym c.block_size.ensures.value)
          (subst (AllTracksHalfFull s.block_size) (sym run)
          (run_half_full g.S.Store s c.requires id c.in_ok-track.field-0.now found));
    }

pub planned_run-requires-clause-fits : goal.planned_run-requires-clause-fits
planned_run-requires-clause-fits g c =
    let s = core_of c.args.self.now in
    let range = c.args.range in
    let run : layouts c.deref.result.now ≡ run_of range.track c.current-project.result.now =
    ap layouts c.deref.ensures.value ∙ c.in_ok-run.ensures in
    subst (λ (z : List (List Clip)). length c.in_ok-strips.plans ≤ length z) run
    (cuts_few (removed c.args.removing range.from range.to)
    (record { block_size = c.block_size.result; next = s.next_block }) range.count (layouts c.deref.result.now)
    c.in_ok-strips.plans c.in_ok-strips.ensures.plans)
