-- The blocks of a layout: what they mean, and which of them are new.
use Rattle.editor_blocks.proofs.Common.{rules, ◌≡◌, ⊎_elim, sym, ap, ◌∙◌, subst, ℕ, ℤ, Some, List, [], ◌∷◌, true}
use Rattle.editor_blocks.proofs.Common.{if◌then◌else◌, eq-eqb, eqb_tells, AllByRecursion, BlockRef, layout_blocks}
use Rattle.editor_blocks.proofs.Common.{NewBlock, AreOldOrNew, Track, beside, all_left, all_right}
use Rattle.std.proofs.Common.{eqb}
use Rattle.std.proofs.{lemmas.Option.none-some}
use Rattle.clip_track.specs.Clips.{layout_cells}
use Rattle.project_state.specs.{Meaning.point_blocks, Tracks.track_of}
use Rattle.editor_state.specs.{Edits.alone, Points.put_in, Points.put_one}
use Rattle.editor_blocks.proofs.StudioBlocks.{refs}

-- what a command brings changes no block
pub layout_given : (block : ℕ → ℕ → ℤ) (given : ℕ → ℤ) (t : Track)
    → layout_cells (alone block) t.layout ≡ layout_cells (beside block given) t.layout
layout_given block given t = search rules

-- ---- what holds of all blocks of a layout holds of the new ones

module _ (P : BlockRef → Type 0) where
  pub new_in : (old bs : List BlockRef) (ns : List NewBlock) → AreOldOrNew old bs ns → AllByRecursion P bs
      → AllByRecursion P (refs ns)
  new_in old [] [] h all = tt
  new_in old [] (n ∷ ns) h all = absurd h
  new_in old (x ∷ xs) [] h all = tt
  new_in old (x ∷ xs) (n ∷ ns) h all = ⊎_elim
      (λ was. new_in old xs (n ∷ ns) was.1 all.1)
      (λ new. (subst P new.0 all.0, new_in old xs ns new.1 all.1))
      h

  -- of a track that is put in the place of another
  pub put_in_of : (id : ℕ) (new t : Track) (ts : List Track) → track_of id ts ≡ Some t → new.id ≡ id
      → AllByRecursion P (point_blocks (put_in new ts)) → AllByRecursion P (layout_blocks new.layout)
  put_in_of id new t [] found is all = absurd (none-some t found)
  put_in_of id new t (x ∷ xs) found is all =
      let here = all_left P (layout_blocks (put_one new x).layout) (point_blocks (put_in new xs)) all in
      let later = all_right P (layout_blocks (put_one new x).layout) (point_blocks (put_in new xs)) all in
      ⊎_elim
      (λ same.
      let there : eqb x.id new.id ≡ true = eq-eqb x.id new.id (sym same.1 ∙ sym is) in
      subst (λ b. AllByRecursion P (layout_blocks (if b then new else x).layout)) there here)
      (λ other.
      put_in_of id new t xs (sym (ap (λ b. if b then Some x else track_of id xs) other.0) ∙ found) is later)
      (eqb_tells id x.id)
