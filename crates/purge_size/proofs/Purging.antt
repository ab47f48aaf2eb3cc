-- How many points go.
use Rattle.std.proofs.Common.{◌≡◌, ◌⊎◌, ⊎_elim, inl, inr, refl, sym, ap, ◌∙◌, subst, ℕ, zero, suc, ◌+◌, ◌-◌, ◌≤◌, ◌<◌}
use Rattle.std.proofs.Common.{min, true, false, List, [], ◌∷◌, ◌++◌, take, drop, slice_get, Some, arith, flat_map}
use Rattle.std.proofs.{lemmas.List.drop-drop, lemmas.Grind.flat_map-append}
use Rattle.pcm_base.specs.{declared.block.BlockRef.BlockRef, History.History, History.points_of}
use Rattle.clip_track.specs.Clips.{layout_blocks}
use Rattle.project_state.specs.declared.track.Track.{Track}
use Rattle.project_state.proofs.Points.{drop_some}
use Rattle.layout_uses.specs.Layouts.{AreNumbered, history_tracks, points_tracks, track_blocks}
use Rattle.layout_uses.proofs.{Histories.points_split, Moves.numbered_back}
use Rattle.purge_size.specs.{declared.fitting.Fitting.Fitting, Fits.AreSmall, Fits.HasTracks, Fits.TakesTracks}
use Rattle.purge_size.specs.{Sizes.IsPurgeTo, Sizes.size_without, Sizes.sizes}
use Rattle.purge_size.proofs.Taking.{small_here, tracks_behind}

-- fewer points have no more bytes
falls : (m : ℕ) (ps : List (List Track))
    → sizes (track_blocks (points_tracks (drop m ps))) ≤ sizes (track_blocks (points_tracks ps))
falls m ps =
    let all = ap (λ z. sizes (track_blocks z)) (points_split m ps) in
    omega (arith, all, tracks_behind (points_tracks (take m ps)) (points_tracks (drop m ps)))

module _ (h : History (List Track)) where
  abbrev ps : List (List Track)
  ps = points_of h

  pub size_falls : (k j : ℕ) → k ≤ j → size_without h j ≤ size_without h k
  size_falls k j le =
      let sum : k + (j - k) ≡ j = omega (arith, le) in
      let same : drop (j - k) (drop k ps) ≡ drop j ps = drop-drop (j - k) k ps ∙ ap (λ (n : ℕ). drop n ps) sum in
      let sizes_are = ap (λ z. sizes (track_blocks (points_tracks z))) same in
      omega (arith, falls (j - k) (drop k ps), sizes_are)

  -- what was taken at a place has the size from there on
  pub size_at : (f : Fitting) (i most : ℕ) → HasTracks (points_tracks (drop i ps)) f → f.most ≡ most
      → size_without h i ≤ most
  size_at f i most has is = omega (arith, has.blocks.size, is)

  module _ (numbered : AreNumbered (history_tracks h)) (j : ℕ) (p : List Track) (here : slice_get ps j ≡ Some p) where
    from_point : points_tracks (drop j ps) ≡ p ++ points_tracks (drop (j + 1) ps)
    from_point = ap points_tracks (drop_some ps j p here)

    numbered_from : AreNumbered (p ++ points_tracks (drop (j + 1) ps))
    numbered_from = subst AreNumbered from_point
        (numbered_back (points_tracks (take j ps)) (points_tracks (drop j ps))
        (subst AreNumbered (points_split j ps) numbered))

    module _ (a b : Fitting) (was : HasTracks (points_tracks (drop (j + 1) ps)) a) where
      pub point_taken : TakesTracks true p a b → HasTracks (points_tracks (drop j ps)) b
      point_taken takes = subst (λ z. HasTracks z b) (sym from_point)
          (takes.taken (points_tracks (drop (j + 1) ps)) numbered_from was refl)

      pub purge_here : (most : ℕ) → a.most ≡ most → TakesTracks false p a b → IsPurgeTo h most (min h.cursor (j + 1))
      purge_here most is takes =
          let over : most < size_without h j = subst (λ z. most < sizes (track_blocks z)) (sym from_point)
          (omega (arith, is, takes.over (points_tracks (drop (j + 1) ps)) numbered_from was refl)) in
          record {
            within = omega arith;
            fits = ⊎_elim
                (λ le. inr (omega (arith, le)))
                (λ lt. inl (subst (λ (n : ℕ). size_without h n ≤ most) (omega (arith, lt)) (size_at a
                (j + 1) most was is)))
                (either h.cursor (j + 1));
            least = λ k lt.
                let le : k ≤ j = omega (arith, lt) in
                omega (arith, over, size_falls k j le);
          }
        where
          either : (a b : ℕ) → (a ≤ b) ⊎ (b < a)
          either zero b = inl (omega arith)
          either (suc a) zero = inr (omega arith)
          either (suc a) (suc b) = ⊎_elim (λ le. inl (omega (arith, le))) (λ lt. inr (omega (arith, lt))) (either a b)

  pub small_point : (j : ℕ) (p : List Track) → slice_get ps j ≡ Some p → AreSmall (track_blocks (history_tracks h))
      → AreSmall (track_blocks p)
  small_point j p here small = small_here track_blocks ps j p here (subst AreSmall (flat ps) small)
    where
      flat : (qs : List (List Track)) → track_blocks (points_tracks qs) ≡ flat_map track_blocks qs
      flat [] = refl
      flat (q ∷ qs) = flat_map-append (λ (t : Track). layout_blocks t.layout) q (points_tracks qs)
          ∙ ap (λ (z : List BlockRef). track_blocks q ++ z) (flat qs)
