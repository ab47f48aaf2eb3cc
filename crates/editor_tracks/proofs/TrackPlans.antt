-- The plan of an edit of one track: what it leaves, and why there is none.
use Rattle.editor_tracks.proofs.Common.{◌≡◌, ◌⊎◌, inl, sym, ap, ◌∙◌, subst, ℕ, ◌+◌, ◌≤◌, ◌<◌, ℤ, Some, None, List}
use Rattle.editor_tracks.proofs.Common.{rules, length, Contains, arith, Option, ◌^◌, length-map, changed_at}
use Rattle.editor_tracks.proofs.Common.{with_cells, BlockRef, Refusal, Ghosts, IsNamed, Item, end_of, layout_blocks}
use Rattle.editor_tracks.proofs.Common.{layout_cells, NewBlock, AllNewFrom, AreNew, AreOldOrNew, AreWritten, brought}
use Rattle.editor_tracks.proofs.Common.{brought_by, brought_count, meant, meant_track, point_blocks, Track, track_of}
use Rattle.editor_tracks.proofs.Common.{current_tracks, IsValidPoint, IsValidTrack, HasNumbers, AreAmong, IsPlanned}
use Rattle.editor_tracks.proofs.Common.{alone, beside, blocks_with, clip_then, tagged_by, IsGiven, IsStudio}
use Rattle.editor_tracks.proofs.Common.{clip_blocks, named_blocks, MayPaste, Planned, Core, IsTrackPlan, NoTrackPlan}
use Rattle.editor_tracks.proofs.Common.{TrackEdit, track_refusal, with_layout, among_itself, all_left, all_right}
use Rattle.editor_tracks.proofs.Common.{all_so, valid_of, current_may_read, current_valid, old_names, point_more, refs}
use Rattle.editor_tracks.proofs.Common.{refs_ids, all_readable, ids_clips, new_from_more, old_or_new, new_in}
use Rattle.std.proofs.{lemmas.List.Elements.Contains-append_left}
use Rattle.block_writer.specs.declared.given.Given.{Given}
use Rattle.layout_uses.proofs.Putting.{put_numbers}
use Rattle.project_state.specs.Kept.{KeepsTracks}
use Rattle.editor_state.specs.{Points.put_in, Points.put_one}
use Rattle.project_state.proofs.KeptTracks.{keeps_each, put_each}
use Rattle.clip_track.specs.{Kept.Keeps, declared.kept.Kept.Kept}
use Rattle.editor_commits.proofs.TrackChanges.{layout_of, put_all, put_means, put_rising, put_valid}
use Rattle.editor_blocks.proofs.StudioBlocks.{IsNewId}
use Rattle.editor_blocks.proofs.PlanBlocks.{clips_ids}
use Rattle.editor_blocks.proofs.LayoutBlocks.{put_in_of, layout_given}
use Rattle.record_body.proofs.DiffTracks.{found_id}
use Rattle.pcm_base.specs.declared.refusal.Refusal.TheVariants as refusal

-- ---- the track, and why there is no plan

pub current_track : {D : Type 0} (disk : Ghosts D) (s : Core D) → IsStudio disk s → (id : ℕ) (t : Track)
    → track_of id (current_tracks s.history) ≡ Some t
    → IsValidTrack s.block_size s.next_block s.next_track t
current_track disk s is id t found =
    valid_of s.block_size s.next_block s.next_track id (current_tracks s.history) t found
    (current_valid disk s is).valid

pub no_such_track : (e : TrackEdit) (id : ℕ) (old : List Track) (why : Refusal) → why ≡ refusal.NoTrack id
    → track_of id old ≡ None → NoTrackPlan e id old why
no_such_track e id old why is none = inl ((λ i. track_refusal id e.test (none i)) ∙ ap Some (sym is))

pub test_fails : (e : TrackEdit) (id : ℕ) (old : List Track) (t : Track) (why : Refusal) → track_of id old ≡ Some t
    → (e.test (end_of 0 t.layout) ≡ Some why) ⊎ ((e.test (end_of 0 t.layout) ≡ None) × (why ≡ refusal.NoMemory))
    → NoTrackPlan e id old why
test_fails e id old t why found not = search rules

-- ---- what a plan leaves

module _ {D : Type 0} (disk : Ghosts D) (s : Core D) (is : IsStudio disk s) (e : TrackEdit) (given : Given) (id : ℕ)
    (planned : Planned) (p : IsTrackPlan e (brought_count given) id s planned) where
  abbrev makes : List NewBlock
  makes = planned.makes

  abbrev old : List Track
  old = current_tracks s.history

  old_valid : IsValidPoint s.block_size s.next_block s.next_track old
  old_valid = current_valid disk s is

  abbrev was : Track
  was = p.track

  abbrev now : Track
  now = with_layout s.next_layout was p.plan.layout

  abbrev n : ℕ
  n = length makes

  abbrev every : List BlockRef
  every = blocks_with s makes

  was_valid : IsValidTrack s.block_size s.next_block s.next_track was
  was_valid = current_track disk s is id was p.found

  fresh : AreNew s.block_size s.next_block makes
  fresh = subst (AreNew s.block_size s.next_block) (sym p.makes_is) p.is_plan.new

  origin : AllNewFrom (layout_blocks was.layout) (brought_count given) makes
  origin = subst (AllNewFrom (layout_blocks was.layout) (brought_count given)) (sym p.makes_is) p.is_plan.origin

  laid : AreOldOrNew (layout_blocks was.layout) (layout_blocks p.plan.layout) makes
  laid = subst (AreOldOrNew (layout_blocks was.layout) (layout_blocks p.plan.layout)) (sym p.makes_is) p.is_plan.blocks

  -- the track's blocks are named by the studio
  old_named : AreAmong (named_blocks s) (point_blocks old)
  old_named = old_names disk s is (Contains (named_blocks s)) (among_itself (named_blocks s))

  was_named : AreAmong (named_blocks s) (layout_blocks was.layout)
  was_named = layout_of (Contains (named_blocks s)) id old was p.found old_named

  more : AreAmong (named_blocks s) (layout_blocks was.layout) → AreAmong every (layout_blocks was.layout)
  more h = all_so (Contains (named_blocks s)) (Contains every)
      (λ b k. Contains-append_left (named_blocks s) (refs makes) b k) (layout_blocks was.layout) h

  made_named : AreAmong every (refs makes)
  made_named = all_right (Contains every) (named_blocks s) (refs makes) (among_itself every)

  now_valid : IsValidTrack s.block_size (s.next_block + n) s.next_track now
  now_valid =
      let Q : BlockRef → Type 0 = λ b. IsGiven (s.next_block + n) b.id in
      let old_ids = all_so (λ (b : BlockRef). IsGiven s.next_block b.id) Q (λ b h. (h.0, omega (arith, h.1)))
      (layout_blocks was.layout) (clips_ids s.next_block was.layout was_valid.blocks) in
      let new_ids = all_so (λ (b : BlockRef). IsNewId s.next_block n b.id) Q
      (λ b h. (omega (arith, h.0, is.counters.block_least), h.1)) (refs makes)
      (refs_ids s.block_size s.next_block makes fresh) in
      record {
        given = was_valid.given;
        gain = was_valid.gain;
        layout = p.layout;
        half_full = p.is_plan.half_full;
        blocks = ids_clips (s.next_block + n) p.plan.layout
            (old_or_new Q (layout_blocks was.layout) (layout_blocks p.plan.layout) makes laid old_ids new_ids);
      }

  put_few : length (put_in now old) ≤ 64
  put_few = omega (arith, old_valid.few, length-map old (put_one now))

  put_is_valid : IsValidPoint s.block_size (s.next_block + n) (s.next_track + 0) (put_in now old)
  put_is_valid = search (rules, point_more, old_valid, put_few, put_rising, put_valid, now_valid)

  put_names : AreAmong every (point_blocks (put_in now old))
  put_names =
      let C : BlockRef → Type 0 = Contains every in
      let mine = old_or_new C (layout_blocks was.layout) (layout_blocks p.plan.layout) makes laid
      (more was_named) made_named in
      let rest = all_so (Contains (named_blocks s)) C (λ b k. Contains-append_left (named_blocks s) (refs makes) b k)
      (point_blocks old) old_named in
      put_all C now old mine rest

  -- each new block stands in the track
  put_used : AreAmong (point_blocks (put_in now old)) (refs makes)
  put_used =
      let C : BlockRef → Type 0 = Contains (point_blocks (put_in now old)) in
      new_in C (layout_blocks was.layout) (layout_blocks p.plan.layout) makes laid
      (put_in_of C id now was old p.found (found_id id old was p.found) (among_itself (point_blocks (put_in now old))))

  clip_named : AreAmong every (clip_blocks s.clipboard)
  clip_named = search (rules, all_right, all_left, refs, among_itself)

  numbers : HasNumbers old s.next_layout planned.point (s.next_layout + planned.layouts)
  numbers = subst (λ (k : ℕ). HasNumbers old s.next_layout planned.point (s.next_layout + k)) (sym p.layouts_is)
      (subst (λ (q : List Track). HasNumbers old s.next_layout q (s.next_layout + 1)) (sym p.is) (put_numbers old now))

  kept : KeepsTracks planned.kept old planned.point
  kept =
      let K : Kept → Type 0 = λ k. Keeps k (layout_blocks was.layout) (layout_blocks p.plan.layout) in
      let each = put_each planned.kept id now was (found_id id old was p.found) (subst K (sym p.kept_is) p.keeps) 1 old
      old_valid.rising p.found in
      subst (KeepsTracks planned.kept old) (sym p.is) (keeps_each planned.kept 1 old (put_in now old)
      put_is_valid.rising each)

  pub track_planned : planned.tracks ≡ 0 → planned.clip ≡ None → (tag more : ℕ) → tag ≤ s.commit_number
      → (0 < more → 1 ≤ tag) → IsPlanned s (tagged_by planned tag more (brought_by given) (brought given))
  track_planned none keeps tag more tag_given counts = record {
    new = fresh;
    readable = all_readable s.block_size s.next_block (brought_count given) (layout_blocks was.layout) makes
        (layout_of IsNamed id old was p.found (current_may_read disk s is)) origin fresh;
    origin = new_from_more (layout_blocks was.layout) (named_blocks s) (brought_count given) makes was_named origin;
    tag_given = tag_given;
    tag_counts = counts;
    layouts = numbers;
    valid = subst (λ (k : ℕ). IsValidPoint s.block_size (s.next_block + n) (s.next_track + k) planned.point) (sym none)
        (subst (IsValidPoint s.block_size (s.next_block + n) (s.next_track + 0)) (sym p.is) put_is_valid);
    kept = kept;
    names = subst (λ (q : List Track). AreAmong every (point_blocks q)) (sym p.is) put_names;
    used = subst (λ (q : List Track). AreAmong (point_blocks q) (refs makes)) (sym p.is) put_used;
    clip_names = subst (λ (z : Option (List (List Item))). AreAmong every (clip_blocks (clip_then z s.clipboard)))
        (sym keeps) clip_named;
    clip_few = subst (λ (z : Option (List (List Item))). length (clip_blocks (clip_then z s.clipboard)) ≤ 2 ^ 71)
        (sym keeps) is.few_clips;
    clip_fits = subst (λ (z : Option (List (List Item))). MayPaste s.block_size (clip_then z s.clipboard))
        (sym keeps) is.clipboard;
  }

  pub track_next : planned.next ≡ s.next_block + n
  track_next = p.after_is ∙ p.is_plan.next_id ∙ ap (λ (bs : List NewBlock). s.next_block + length bs) (sym p.makes_is)

  pub point_means : (block : ℕ → ℕ → ℤ) → AreWritten (beside block (brought given)) makes
      → meant (alone block) planned.point
      ≡ changed_at id (with_cells (e.cells (brought given))) (meant (alone block) old)
  point_means block written =
      let src = alone block in
      let with = beside block (brought given) in
      let f = e.cells (brought given) in
      let at = p.means with (subst (AreWritten with) p.makes_is written) in
      let cells : layout_cells src now.layout ≡ f (layout_cells src was.layout) =
      layout_given block (brought given) now ∙ at ∙ ap f (sym (layout_given block (brought given) was)) in
      let changes : meant_track src now ≡ with_cells f (meant_track src was) =
      λ i. record { id = was.id; gain = was.gain; side = was.side; mute = was.mute; cells = cells i } in
      ap (meant src) p.is
      ∙ put_means src id now was (with_cells f) (found_id id old was p.found) changes 1 old old_valid.rising p.found
