-- A run of tracks laid out by plans, as an edit that makes blocks: what its plan is, and what its point means.
use Rattle.editor_tracks.proofs.Common.{rules, ◌≡◌, sym, ap, ◌∙◌, subst, ℕ, ◌+◌, ◌*◌, ◌^◌, ◌≤◌, ℤ, Option, Some, List}
use Rattle.editor_tracks.proofs.Common.{length, Contains, AllByRecursion, BlockRef, run_edited, Ghosts, AllNamed, Item}
use Rattle.editor_tracks.proofs.Common.{AllNewFrom, AreNew, AreWritten, NewBlock, Plan, Nothing, brought, brought_by}
use Rattle.editor_tracks.proofs.Common.{Track, meant, point_blocks, track_of, current_tracks, IsValidPoint, HasNumbers}
use Rattle.editor_tracks.proofs.Common.{AreAmong, IsPlanned, alone, beside, blocks_with, clip_behind, tagged_by}
use Rattle.editor_tracks.proofs.Common.{IsStudio, MayPaste, clip_blocks, named_blocks, Planned, Core, laid_from}
use Rattle.editor_tracks.proofs.Common.{among_itself, all_left, all_right, all_so, current_valid, old_names, point_more}
use Rattle.editor_tracks.proofs.Common.{refs, refs_ids, all_readable, new_from_more}
use Rattle.editor_tracks.specs.RunEdits.{IsRunPlan}
use Rattle.editor_state.proofs.Blocks.BlockLists.{among_all}
use Rattle.editor_tracks.proofs.RunPlans.{AreLaid, AreValidPlans, CellEdit, LayoutsAll, edits_at, laid_all, laid_few}
use Rattle.editor_tracks.proofs.RunPlans.{laid_half_full, laid_length, laid_names, laid_new, laid_origin, laid_rising}
use Rattle.editor_tracks.proofs.RunPlans.{laid_valid, valid_plans}
use Rattle.editor_tracks.proofs.{CopyStrips.from_track, RunMeaning.laid_means, RunBlocks.laid_in}
use Rattle.editor_tracks.proofs.{RunKept.laid_keeps}
use Rattle.project_state.proofs.KeptTracks.{keeps_each}
use Rattle.project_state.specs.Kept.{KeepsTracks}

module _ {D : Type 0} (disk : Ghosts D) (s : Core D) (is : IsStudio disk s) (id : ℕ) (track : Track)
    (found : track_of id (current_tracks s.history) ≡ Some track)
    (xs : List BlockRef) (named : AreAmong (named_blocks s) xs) (readable : AllNamed xs)
    (fs : List CellEdit) (plans : List Plan)
    (laid : AreLaid fs s.block_size s.next_block xs (from_track id (current_tracks s.history)) plans)
    (p : Planned) (run : IsRunPlan id s.next_block s.next_layout (current_tracks s.history) plans p) where
  abbrev old : List Track
  old = current_tracks s.history

  abbrev ran : List Track
  ran = from_track id old

  abbrev m : ℕ
  m = s.block_size

  abbrev makes : List NewBlock
  makes = p.makes

  abbrev n : ℕ
  n = length makes

  abbrev every : List BlockRef
  every = blocks_with s makes

  old_valid : IsValidPoint m s.next_block s.next_track old
  old_valid = current_valid disk s is

  fresh : AreNew m s.next_block makes
  fresh = subst (AreNew m s.next_block) (sym run.makes_is) (laid_new fs m s.next_block xs ran plans laid)

  origin : AllNewFrom xs 0 makes
  origin = subst (AllNewFrom xs 0) (sym run.makes_is) (laid_origin fs m s.next_block xs ran plans laid)

  -- what holds of the blocks that the studio names, and of the new ones, holds of those of each plan
  all_laid : (P : BlockRef → Type 0) → AllByRecursion P (named_blocks s) → AllByRecursion P (refs makes)
      → LayoutsAll P plans
  all_laid P was made = search (rules, laid_all, among_all, refs)

  given_then : AreValidPlans m (s.next_block + n) plans
  given_then = search (rules, all_so, refs, refs_ids, fresh, valid_plans, laid_half_full, all_laid)

  laid_is_valid : IsValidPoint m (s.next_block + n) (s.next_track + 0) (laid_from id plans s.next_layout old)
  laid_is_valid = search (rules, point_more, old_valid, laid_length, laid_rising, laid_valid, given_then)

  laid_are_named : AreAmong every (point_blocks (laid_from id plans s.next_layout old))
  laid_are_named =
      let C : BlockRef → Type 0 = Contains every in
      let was = all_left C (named_blocks s) (refs makes) (among_itself every) in
      let made = all_right C (named_blocks s) (refs makes) (among_itself every) in
      laid_names C id plans s.next_layout old (all_laid C was made) (old_names disk s is C was)

  -- each new block stands in a track of the run
  laid_used : AreAmong (point_blocks (laid_from id plans s.next_layout old)) (refs makes)
  laid_used =
      let point = point_blocks (laid_from id plans s.next_layout old) in
      subst (λ (bs : List NewBlock). AreAmong point (refs bs)) (sym run.makes_is)
      (laid_in (Contains point) fs m s.next_block xs id 1 old track plans s.next_layout old_valid.rising found laid
      (among_itself point))

  kept : KeepsTracks p.kept old p.point
  kept =
      subst (KeepsTracks p.kept old) (sym run.is) (keeps_each p.kept 1 old (laid_from id plans s.next_layout old)
      laid_is_valid.rising
      (laid_keeps p.kept fs m s.next_block xs id 1 old track plans s.next_layout old_valid.rising found laid run.keep))

  pub run_planned : p.tracks ≡ 0 → (clip : Option (List (List Item))) → clip_behind s p ≡ clip
      → HasNumbers old s.next_layout p.point (s.next_layout + p.layouts)
      → AreAmong every (clip_blocks clip) → length (clip_blocks clip) ≤ 2 ^ 71 → MayPaste m clip
      → IsPlanned s (tagged_by p 0 0 (brought_by Nothing) (brought Nothing))
  run_planned none clip behind numbers clip_names clip_few clip_fits =
      search (rules, fresh, all_readable, origin, new_from_more, kept, laid_is_valid, laid_are_named, refs, laid_used)

  pub run_few : n ≤ 8 * length fs
  run_few = search (rules, laid_few)

  pub run_point : (block : ℕ → ℕ → ℤ) → AreWritten (beside block (brought Nothing)) makes
      → meant (alone block) p.point ≡ run_edited id (edits_at (alone block) fs) (meant (alone block) old)
  run_point block written =
      ap (meant (alone block)) run.is
      ∙ laid_means (alone block) fs m s.next_block xs id 1 old track plans s.next_layout
      old_valid.rising found laid (subst (AreWritten (alone block)) run.makes_is written)
