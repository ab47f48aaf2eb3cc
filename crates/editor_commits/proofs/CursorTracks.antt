-- The point at the cursor, and its tracks.
use Rattle.editor_commits.proofs.Common.{rules, ◌≡◌, ⊎_elim, refl, sym, ap, ◌∙◌, ℕ, ◌^◌, ◌≤◌, if◌then◌else◌, List, []}
use Rattle.editor_commits.proofs.Common.{◌∷◌, subst, None, Some, arith, eq-eqb, ne_eqb, eqb_tells, none-some, same_Some}
use Rattle.editor_commits.proofs.Common.{tracks_from, Sources, IsWhole, AllWhole, Clip, IsLayout, layout_blocks, Ghosts}
use Rattle.editor_commits.proofs.Common.{Track, meant, point_blocks, track_of, current_tracks, Saved, IsValidPoint}
use Rattle.editor_commits.proofs.Common.{IsValidTagged, IsHeld, IsStudio, named_blocks, Core, lacks}
use Rattle.std.proofs.Common.{Contains}
use Rattle.std.proofs.{lemmas.List.Elements.All-from_recursion, lemmas.List.Elements.recursion_from_All}
use Rattle.std.specs.List.{All}
use Rattle.pcm_base.specs.Cells.{cells_at, cells_of_first}
use Rattle.pcm_base.specs.{History.history_of_one}
use Rattle.sample_block.specs.Sources.{IsNamed, AllNamed}
use Rattle.clip_track.specs.{Clips.layout_cells}
use Rattle.record_body.proofs.SavedBounds.{IsBlockRef, valid_blocks}
use Rattle.editor_state.specs.{Edits.AreAmong, Reads.HasLayout}
use Rattle.editor_state.proofs.Blocks.BlockLists.{among_itself}
use Rattle.editor_commits.proofs.CurrentProject.{current_valid, old_names}
use Rattle.editor_commits.proofs.TrackChanges.{layout_of, valid_of}

-- the blocks of a valid project are blocks that a disk may have
pub named_valid : (m next next_track : ℕ) (ts : List Track) → m ≤ 262144 → 16 ≤ next → next ≤ 2 ^ 62 → 1 ≤ next_track
    → next_track ≤ 2 ^ 62
    → IsValidPoint m next next_track ts → AllNamed (point_blocks ts)
named_valid m next next_track ts few least most track_least track_most is =
    let k : Saved = record { history = history_of_one ts 0 1; next_block = next; next_track = next_track; commit = 0 } in
    let points = All-from_recursion (IsValidTagged m next next_track 0) ((ts, 0) ∷ []) ((is, omega arith), tt) in
    let all = valid_blocks m 1 0 k few (record {
      points = points;
      depth_is = refl;
      commit_is = refl;
      block_least = least;
      block_most = most;
      track_least = track_least;
      track_most = track_most;
    }) in
    recursion_from_All IsBlockRef (point_blocks ts)
    (recursion_from_All (λ (p : List Track × ℕ). All IsBlockRef (point_blocks p.0)) ((ts, 0) ∷ []) all).0

-- the cells of a track
pub cells_meant : (src : Sources) (id : ℕ) (ts : List Track) (t : Track) → track_of id ts ≡ Some t
    → cells_at id (meant src ts) ≡ layout_cells src t.layout
cells_meant src id [] t found = absurd (none-some t found)
cells_meant src id (x ∷ xs) t found = ⊎_elim
    (λ same.
    let it : x ≡ t = same_Some x t (sym (ap (λ b. if b then Some x else track_of id xs) same.0) ∙ found) in
    let one : cells_at id (meant src (x ∷ xs)) ≡ layout_cells src x.layout =
    ap (λ b. cells_of_first (if b then meant src (x ∷ xs) else tracks_from id (meant src xs)))
    (eq-eqb x.id id (sym same.1)) in
    one ∙ ap (λ (z : Track). layout_cells src z.layout) it)
    (λ other.
    let later : track_of id xs ≡ Some t = sym (ap (λ b. if b then Some x else track_of id xs) other.0) ∙ found in
    let one : cells_at id (meant src (x ∷ xs)) ≡ cells_at id (meant src xs) =
    ap (λ b. cells_of_first (if b then meant src (x ∷ xs) else tracks_from id (meant src xs)))
    (ne_eqb x.id id (λ e. other.1 (sym e))) in
    one ∙ cells_meant src id xs t later)
    (eqb_tells id x.id)

module _ {D : Type 0} (disk : Ghosts D) (s : Core D) (is : IsStudio disk s) where
  -- any project of it that is valid may be read
  pub may_read : (ts : List Track) → IsValidPoint s.block_size s.next_block s.next_track ts → AllNamed (point_blocks ts)
  may_read ts valid = search (rules, named_valid)

  abbrev ts : List Track
  ts = current_tracks s.history

  pub current_may_read : AllNamed (point_blocks ts)
  current_may_read = may_read ts (current_valid disk s is)

  pub current_whole : IsHeld disk s → AllWhole (disk.reads s.store) (point_blocks ts)
  current_whole held = old_names disk s is (IsWhole (disk.reads s.store)) held.whole

  pub current_named : AreAmong (named_blocks s) (point_blocks ts)
  current_named = old_names disk s is (Contains (named_blocks s)) (among_itself (named_blocks s))

  -- ---- one track of the current project
  module _ (id : ℕ) (layout : List Clip) (has : HasLayout id ts layout) where
    pub track_there : lacks id (track_of id ts) ≡ None
    track_there = ap (lacks id) has.found

    pub layout_may_read : AllNamed (layout_blocks layout)
    layout_may_read =
        subst (λ (z : List Clip). AllNamed (layout_blocks z)) (sym has.is)
        (layout_of IsNamed id ts has.track has.found current_may_read)

    pub layout_whole : IsHeld disk s → AllWhole (disk.reads s.store) (layout_blocks layout)
    layout_whole held =
        subst (λ (z : List Clip). AllWhole (disk.reads s.store) (layout_blocks z)) (sym has.is)
        (layout_of (IsWhole (disk.reads s.store)) id ts has.track has.found (current_whole held))

    pub layout_named : AreAmong (named_blocks s) (layout_blocks layout)
    layout_named =
        subst (λ (z : List Clip). AreAmong (named_blocks s) (layout_blocks z)) (sym has.is)
        (layout_of (Contains (named_blocks s)) id ts has.track has.found current_named)

    pub layout_valid : IsLayout layout
    layout_valid =
        subst IsLayout (sym has.is) (valid_of s.block_size s.next_block s.next_track id ts has.track has.found
        (current_valid disk s is).valid).layout

    pub layout_meant : (src : Sources) → cells_at id (meant src ts) ≡ layout_cells src layout
    layout_meant src = cells_meant src id ts has.track has.found ∙ ap (layout_cells src) (sym has.is)
