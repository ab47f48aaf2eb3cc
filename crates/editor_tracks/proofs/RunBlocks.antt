-- The new blocks of plans for a run of tracks stand in what they lay out.
use Rattle.editor_tracks.proofs.Common.{◌≡◌, ⊎_elim, sym, subst, ℕ, ◌+◌, if◌then◌else◌, Some, List, [], ◌∷◌, rules}
use Rattle.editor_tracks.proofs.Common.{eqb_tells, map-append, AllByRecursion, BlockRef, layout_blocks, Plan, ref_of}
use Rattle.editor_tracks.proofs.Common.{Track, point_blocks, AreAbove, track_of, all_append, laid_from, made_by}
use Rattle.editor_tracks.proofs.Common.{all_left, all_right, refs, new_in}
use Rattle.editor_tracks.proofs.RunMeaning.{laid_each, laid_run, run_laid}
use Rattle.editor_tracks.proofs.{CopyStrips.from_track, RunPlans.AreLaid, RunPlans.CellEdit}

module _ (P : BlockRef → Type 0) where
  -- of a run of tracks
  each_in : (fs : List CellEdit) (m next : ℕ) (xs : List BlockRef) (ts : List Track) (ps : List Plan)
      (number : ℕ) → AreLaid fs m next xs ts ps → AllByRecursion P (point_blocks (laid_each ps number ts))
      → AllByRecursion P (refs (made_by ps))
  each_in [] m next xs ts [] number laid all = tt
  each_in [] m next xs ts (p ∷ ps) number laid all = absurd laid
  each_in (f ∷ fs) m next xs [] [] number laid all = tt
  each_in (f ∷ fs) m next xs [] (p ∷ ps) number laid all = absurd laid
  each_in (f ∷ fs) m next xs (t ∷ ts) [] number laid all = absurd laid
  each_in (f ∷ fs) m next xs (t ∷ ts) (p ∷ ps) number laid all =
      let here = all_left P (layout_blocks p.layout) (point_blocks (laid_each ps (number + 1) ts)) all in
      let later = all_right P (layout_blocks p.layout) (point_blocks (laid_each ps (number + 1) ts)) all in
      subst (AllByRecursion P) (sym (map-append ref_of p.makes (made_by ps)))
      (all_append P (refs p.makes) (refs (made_by ps))
      (new_in P xs (layout_blocks p.layout) p.makes laid.0.plan.blocks here)
      (each_in fs m p.next xs ts ps (number + 1) laid.1 later))

  none_in : (fs : List CellEdit) (m next : ℕ) (xs : List BlockRef) (ps : List Plan) → AreLaid fs m next xs [] ps
      → AllByRecursion P (refs (made_by ps))
  none_in [] m next xs [] laid = tt
  none_in [] m next xs (p ∷ ps) laid = absurd laid
  none_in (f ∷ fs) m next xs [] laid = tt
  none_in (f ∷ fs) m next xs (p ∷ ps) laid = absurd laid

  run_in : (fs : List CellEdit) (m next : ℕ) (xs : List BlockRef) (id : ℕ) (ts : List Track) (ps : List Plan)
      (number : ℕ) → AreLaid fs m next xs (from_track id ts) ps
      → AllByRecursion P (point_blocks (laid_run id ps number ts))
      → AllByRecursion P (refs (made_by ps))
  run_in fs m next xs id [] ps number laid all = none_in fs m next xs ps laid
  run_in fs m next xs id (t ∷ ts) ps number laid all = ⊎_elim
      (λ same.
      let here = subst (λ b. AreLaid fs m next xs (if b then t ∷ ts else from_track id ts) ps) same.0 laid in
      each_in fs m next xs (t ∷ ts) ps number here (subst (λ b. AllByRecursion P
      (point_blocks (if b then laid_each ps number (t ∷ ts) else t ∷ laid_run id ps number ts))) same.0 all))
      (λ other.
      let later = subst (λ b. AreLaid fs m next xs (if b then t ∷ ts else from_track id ts) ps) other.0 laid in
      run_in fs m next xs id ts ps number later
      (all_right P (layout_blocks t.layout) (point_blocks (laid_run id ps number ts)) (subst (λ b. AllByRecursion P
      (point_blocks (if b then laid_each ps number (t ∷ ts) else t ∷ laid_run id ps number ts))) other.0 all)))
      (eqb_tells t.id id)

  pub laid_in : (fs : List CellEdit) (m next : ℕ) (xs : List BlockRef) (id n : ℕ) (ts : List Track) (x : Track)
      (ps : List Plan) (number : ℕ) → AreAbove n ts → track_of id ts ≡ Some x → AreLaid fs m next xs
      (from_track id ts) ps
      → AllByRecursion P (point_blocks (laid_from id ps number ts)) → AllByRecursion P (refs (made_by ps))
  laid_in fs m next xs id n ts x ps number above found laid all = search (rules, run_in, run_laid)
