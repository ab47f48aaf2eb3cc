-- Tracks of a run keep blocks, as their plans say.
use Rattle.editor_tracks.proofs.Common.{◌≡◌, ⊎_elim, inl, inr, refl, sym, subst, ℕ, ◌+◌, if◌then◌else◌, Some, List, []}
use Rattle.editor_tracks.proofs.Common.{◌∷◌, eqb_tells, BlockRef, layout_blocks, Plan, Track, AreAbove, track_of}
use Rattle.editor_tracks.proofs.Common.{laid_from}
use Rattle.clip_track.specs.declared.kept.Kept.{Kept}
use Rattle.clip_track.proofs.KeptLists.{keeps_less}
use Rattle.project_state.proofs.KeptTracks.{KeepEach, each_here}
use Rattle.editor_tracks.specs.RunEdits.{AllKeep}
use Rattle.editor_tracks.proofs.RunMeaning.{laid_each, laid_run, run_laid}
use Rattle.editor_tracks.proofs.{CopyStrips.from_track, RunPlans.AreLaid, RunPlans.CellEdit}

module _ (k : Kept) where
  each_keeps : (fs : List CellEdit) (m next : ℕ) (xs : List BlockRef) (ts : List Track) (ps : List Plan)
      (number : ℕ) → AreLaid fs m next xs ts ps → AllKeep k ps → KeepEach k ts (laid_each ps number ts)
  each_keeps [] m next xs ts [] number laid keep = each_here k ts
  each_keeps [] m next xs ts (p ∷ ps) number laid keep = absurd laid
  each_keeps (f ∷ fs) m next xs [] [] number laid keep = tt
  each_keeps (f ∷ fs) m next xs [] (p ∷ ps) number laid keep = absurd laid
  each_keeps (f ∷ fs) m next xs (t ∷ ts) [] number laid keep = absurd laid
  each_keeps (f ∷ fs) m next xs (t ∷ ts) (p ∷ ps) number laid keep = (
    refl,
    inr (keeps_less k p.kept (layout_blocks t.layout) (layout_blocks p.layout) keep.0.0 keep.0.1 laid.0.kept),
    each_keeps fs m p.next xs ts ps (number + 1) laid.1 keep.1,
  )

  run_keeps : (fs : List CellEdit) (m next : ℕ) (xs : List BlockRef) (id : ℕ) (ts : List Track) (ps : List Plan)
      (number : ℕ) → AreLaid fs m next xs (from_track id ts) ps → AllKeep k ps
      → KeepEach k ts (laid_run id ps number ts)
  run_keeps fs m next xs id [] ps number laid keep = tt
  run_keeps fs m next xs id (t ∷ ts) ps number laid keep =
      let K : List Track → Type 0 = KeepEach k (t ∷ ts) in
      ⊎_elim
      (λ same.
      let here = subst (λ b. AreLaid fs m next xs (if b then t ∷ ts else from_track id ts) ps) same.0 laid in
      subst (λ b. K (if b then laid_each ps number (t ∷ ts) else t ∷ laid_run id ps number ts)) (sym same.0)
      (each_keeps fs m next xs (t ∷ ts) ps number here keep))
      (λ other.
      let later = subst (λ b. AreLaid fs m next xs (if b then t ∷ ts else from_track id ts) ps) other.0 laid in
      subst (λ b. K (if b then laid_each ps number (t ∷ ts) else t ∷ laid_run id ps number ts)) (sym other.0)
      (refl, inl refl, run_keeps fs m next xs id ts ps number later keep))
      (eqb_tells t.id id)

  pub laid_keeps : (fs : List CellEdit) (m next : ℕ) (xs : List BlockRef) (id n : ℕ) (ts : List Track) (x : Track)
      (ps : List Plan) (number : ℕ) → AreAbove n ts → track_of id ts ≡ Some x
      → AreLaid fs m next xs (from_track id ts) ps → AllKeep k ps → KeepEach k ts (laid_from id ps number ts)
  laid_keeps fs m next xs id n ts x ps number above found laid keep =
      subst (KeepEach k ts) (sym (run_laid id n ps number ts x above found))
      (run_keeps fs m next xs id ts ps number laid keep)
