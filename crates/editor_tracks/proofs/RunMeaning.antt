-- What plans for a run of tracks mean.
use Rattle.editor_tracks.proofs.Common.{◌≡◌, ⊎_elim, refl, sym, ap, ◌∙◌, subst, ℕ, ◌+◌, ◌≤◌, ◌==◌, if◌then◌else◌, Some}
use Rattle.editor_tracks.proofs.Common.{List, [], ◌∷◌, arith, ne_eqb, le-leb, lt-leb, eqb_tells, BlockRef, run_edited}
use Rattle.editor_tracks.proofs.Common.{Sources, Plan, AreWritten, Track, meant, meant_track, AreAbove, track_of}
use Rattle.editor_tracks.proofs.Common.{laid_from, made_by, with_layout, rules}
use Rattle.pcm_base.specs.{Cells.each_edited}
use Rattle.editor_tracks.proofs.CopyStrips.{found_above, from_track}
use Rattle.editor_tracks.proofs.RunPlans.{AreLaid, CellEdit, edits_at, written_left, written_right}
use Rattle.pcm_base.specs.Cells as cells

-- ---- what they mean

-- the first tracks with the layouts of plans
abbrev pub laid_each : List Plan → ℕ → List Track → List Track
laid_each [] number ts = ts
laid_each (p ∷ ps) number [] = []
laid_each (p ∷ ps) number (t ∷ ts) = with_layout number t p.layout ∷ laid_each ps (number + 1) ts

-- and those from the one with this id on
abbrev pub laid_run : ℕ → List Plan → ℕ → List Track → List Track
laid_run id ps number [] = []
laid_run id ps number (t ∷ ts) =
    if t.id == id then laid_each ps number (t ∷ ts) else t ∷ laid_run id ps number ts

above_laid : (id n : ℕ) (ps : List Plan) (number : ℕ) (ts : List Track) → AreAbove n ts → id ≤ n
    → laid_from id ps number ts ≡ laid_each ps number ts
above_laid id n [] number [] above le = refl
above_laid id n (p ∷ ps) number [] above le = refl
above_laid id n [] number (t ∷ ts) above le =
    search (rules, le-leb, above_laid id (t.id + 1) [] (number + 1) ts above.1 (omega (arith, le, above.0)))
above_laid id n (p ∷ ps) number (t ∷ ts) above le =
    search (rules, le-leb, above_laid id (t.id + 1) ps (number + 1) ts above.1 (omega (arith, le, above.0)))

pub run_laid : (id n : ℕ) (ps : List Plan) (number : ℕ) (ts : List Track) (x : Track) → AreAbove n ts
    → track_of id ts ≡ Some x → laid_from id ps number ts ≡ laid_run id ps number ts
run_laid id n ps number [] x above found = refl
run_laid id n ps number (t ∷ ts) x above found = ⊎_elim
    (λ same. above_laid id t.id ps number (t ∷ ts) (omega arith, above.1) (omega (arith, same.1))
    ∙ sym (ap (λ b. if b then laid_each ps number (t ∷ ts) else t ∷ laid_run id ps number ts) same.0))
    (λ other.
    let later : track_of id ts ≡ Some x =
    sym (ap (λ b. if b then Some t else track_of id ts) (ne_eqb id t.id (λ e. other.1 (sym e)))) ∙ found in
    let less = found_above id (t.id + 1) ts x above.1 later in
    rw (other.0, lt-leb id t.id (omega (arith, less)))
    (ap (λ (z : List Track). t ∷ z) (run_laid id (t.id + 1) ps number ts x above.1 later)))
    (eqb_tells t.id id)

module _ (src : Sources) where
  each_means : (fs : List CellEdit) (m next : ℕ) (xs : List BlockRef) (ts : List Track) (ps : List Plan)
      (number : ℕ) → AreLaid fs m next xs ts ps → AreWritten src (made_by ps)
      → meant src (laid_each ps number ts) ≡ each_edited (edits_at src fs) (meant src ts)
  each_means [] m next xs ts [] number laid written = refl
  each_means [] m next xs ts (p ∷ ps) number laid written = absurd laid
  each_means (f ∷ fs) m next xs [] [] number laid written = refl
  each_means (f ∷ fs) m next xs [] (p ∷ ps) number laid written = absurd laid
  each_means (f ∷ fs) m next xs (t ∷ ts) [] number laid written = absurd laid
  each_means (f ∷ fs) m next xs (t ∷ ts) (p ∷ ps) number laid written =
      search (
        rules,
        written_left,
        written_right,
        laid.0.cells,
        each_means fs m p.next xs ts ps (number + 1) laid.1
            (written_right src p.makes (made_by ps) written),
      )

  run_means : (fs : List CellEdit) (m next : ℕ) (xs : List BlockRef) (id : ℕ) (ts : List Track) (ps : List Plan)
      (number : ℕ) → AreLaid fs m next xs (from_track id ts) ps → AreWritten src (made_by ps)
      → meant src (laid_run id ps number ts) ≡ run_edited id (edits_at src fs) (meant src ts)
  run_means fs m next xs id [] ps number laid written = refl
  run_means fs m next xs id (t ∷ ts) ps number laid written = ⊎_elim
      (λ same.
      let here = subst (λ b. AreLaid fs m next xs (if b then t ∷ ts else from_track id ts) ps) same.0 laid in
      rw (same.0) (each_means fs m next xs (t ∷ ts) ps number here written))
      (λ other.
      let later = subst (λ b. AreLaid fs m next xs (if b then t ∷ ts else from_track id ts) ps) other.0 laid in
      rw (other.0)
      (ap (λ (z : List cells.Track). meant_track src t ∷ z) (run_means fs m next xs id ts ps number later written)))
      (eqb_tells t.id id)

  pub laid_means : (fs : List CellEdit) (m next : ℕ) (xs : List BlockRef) (id n : ℕ) (ts : List Track) (x : Track)
      (ps : List Plan) (number : ℕ) → AreAbove n ts → track_of id ts ≡ Some x
      → AreLaid fs m next xs (from_track id ts) ps → AreWritten src (made_by ps)
      → meant src (laid_from id ps number ts) ≡ run_edited id (edits_at src fs) (meant src ts)
  laid_means fs m next xs id n ts x ps number above found laid written = search (rules, run_laid, run_means)
