-- Bodies whose tracks keep blocks of the current ones.
use Rattle.editor_core.proofs.Common.{◌≡◌, sym, subst, List, Some, slice_get, History, points_of, current_tracks, Track}
use Rattle.editor_core.proofs.Common.{Body, Edit}
use Rattle.clip_track.specs.declared.kept.Kept.{Kept}
use Rattle.project_state.proofs.KeptTracks.{none_keep}
use Rattle.project_state.specs.Kept.{KeepsTracks}
use Rattle.record_body.proofs.SavedBounds.{at_cursor}
use Rattle.record_body.specs.Numbers.{BodyKeeps}
use Rattle.record_body.specs.declared.body.Body.TheVariants.{Undo, Redo, Purge}

-- what is said to stay at neither end does
pub body_keeps_none : (k : Kept) (current : List Track) (body : Body) → k.front ≡ 0 → k.back ≡ 0
    → BodyKeeps k current body
body_keeps_none k current (Edit tag next_block next_track point) f b = none_keep k current point f b
body_keeps_none k current Undo f b = tt
body_keeps_none k current Redo f b = tt
body_keeps_none k current (Purge n) f b = tt

-- the current tracks are those of the point at the cursor
pub keep_at_cursor : (k : Kept) (h : History (List Track)) (point : List Track)
    → KeepsTracks k (current_tracks h) point
    → (current : List Track) → slice_get (points_of h) h.cursor ≡ Some current → KeepsTracks k current point
keep_at_cursor k h point keep current found =
    subst (λ (ts : List Track). KeepsTracks k ts point) (sym (at_cursor h.cursor h.points current found)) keep
