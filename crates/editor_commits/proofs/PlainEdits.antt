-- An edit that makes no blocks: the project that it makes, and its commit.
use Rattle.editor_commits.proofs.Common.{rules, ◌≡◌, nat_lt, refl, sym, ap, ◌∙◌, subst, ℕ, ◌+◌, ◌^◌, ◌≤◌, ◌<◌, List, []}
use Rattle.editor_commits.proofs.Common.{◌∷◌, ◌++◌, length, length-append, arith, ⊎_elim, inr, None, Ok, Err}
use Rattle.editor_commits.proofs.Common.{length-map, none-some, AllByRecursion, Project, changed_at, dropped, Done}
use Rattle.editor_commits.proofs.Common.{BlockRef, Line, Refusal, layouts_of, History, edited, call_tests, refused_if}
use Rattle.editor_commits.proofs.Common.{outside, project_body_most, current, Sources, Ghosts, Fewer, Counts, count_of}
use Rattle.editor_commits.proofs.Common.{Clip, IsLayout, layout_blocks, IsValidTrack, Edit, IsValidPoint, meant}
use Rattle.editor_commits.proofs.Common.{meant_track, meant_history, point_blocks, Track, AgreeById, AreCounts, Becomes}
use Rattle.editor_commits.proofs.Common.{MayBecome, Tally, HasNumbers, history_tracks, same_numbers, IsLength, Writing}
use Rattle.editor_commits.proofs.Common.{single, whole_len, IsHeld, IsStudio, clip_blocks, named_blocks, studio_of}
use Rattle.editor_commits.proofs.Common.{studio_tracks, AddsBody, Undrawn, Core, put_in, put_one, Took, quietly, silent}
use Rattle.editor_commits.proofs.Common.{line_of, layouts_by, tracks_by, refusal_by, set_by, empty_track, without}
use Rattle.editor_commits.proofs.Common.{PlainEdit, all_left, none_made}
use Rattle.std.proofs.lemmas.List.{map-append}
use Rattle.std.proofs.{lemmas.Bool.Decides.leb_tells}
use Rattle.pcm_base.specs.{declared.refusal.Refusal.TheVariants.TrackLimit, Counters.LineNeeds, Step.after_line}
use Rattle.pcm_base.specs.{Step.new_track}
use Rattle.clip_track.specs.{Clips.AllHalfFull}
use Rattle.record_body.specs.Valid.{AllClipsGiven}
use Rattle.layout_uses.proofs.Draws.{found_among, numbers_more}
use Rattle.layout_uses.proofs.Putting.{IsLike, set_numbers, without_numbers}
use Rattle.editor_state.specs.{Adding.AddsDrawn}
use Rattle.editor_commits.specs.Plain.{IsGood, IsSet, IsEdited}
use Rattle.editor_commits.proofs.CommitImages.{IsCommit, clip_stays}
use Rattle.editor_commits.proofs.CommitFailures.{fails, undrawn}
use Rattle.editor_commits.proofs.CurrentProject.{old, now, src, current_valid, current_below, current_meant, track_is}
use Rattle.editor_commits.proofs.CurrentProject.{old_names, counts_then, may_become, pointed, pointed_so, then_current}
use Rattle.editor_commits.proofs.CurrentProject.{point_commit, came_agrees, valid_later}
use Rattle.editor_commits.proofs.TrackChanges.{put_means, layout_of, put_all, put_rising, put_valid, valid_of}
use Rattle.editor_commits.proofs.TrackLists.{without_rising, without_valid, without_blocks, without_means, more_valid}
use Rattle.editor_commits.proofs.TrackLists.{more_blocks}
use Rattle.project_state.proofs.Points.{AreAbove-push, without_few}
use Rattle.editor_commits.proofs.PlainLines.{Sets, call_by, draws_by, sets_gain, sets_mute, sets_side}
use Rattle.editor_commits.proofs.{CommitSteps.grows_so, CommitStudios.CountsAfter, BodyBytes.lengths_most}
use Rattle.record_body.proofs.DiffTracks.{found_id}
use Rattle.pcm_base.specs.Cells as cells
use Rattle.editor_commits.specs.declared.plain_edit.PlainEdit.TheVariants as edit
use Rattle.layout_uses.specs.{Tallies.Uses, Tallies.uses_of}
use Rattle.row_ledger.specs.Lists.{counts_of}

module _ {D : Type 0} (disk : Ghosts D) (s : Core D) (is : IsStudio disk s) where
  abbrev was : List Track
  was = old disk s is

  abbrev samples : Sources
  samples = src disk s is

  pub own_is : (e : PlainEdit)
      → refusal_by e was ≡ call_tests (outside (studio_of disk s) silent) (studio_of disk s).state (Line (line_of e))
  own_is edit.Track = search (rules, now, current_meant, length-map, nat_lt)
  own_is (edit.Drop id) = track_is disk s is id
  own_is (edit.Level id gain) = track_is disk s is id
  own_is (edit.Side id side) = track_is disk s is id
  own_is (edit.Mute id mute) = track_is disk s is id

  -- the studio's counts, by the tally that has them
  same_counts : (tally : Tally) → uses_of tally ≡ s.uses → counts_of tally.ledger ≡ s.counts
      → AreCounts (studio_tracks s) (clip_blocks s.clipboard) (uses_of tally) (counts_of tally.ledger)
  same_counts tally uses_are counts_are = subst (λ (w : Uses × Counts).
      AreCounts (studio_tracks s) (clip_blocks s.clipboard) w.0 w.1) (λ i. (sym uses_are i, sym counts_are i)) is.counted

  -- ---- one track set
  module _ (id : ℕ) (g : Track → Track) (f : cells.Track → cells.Track) (sets : Sets g f) (p : List Track)
      (set : IsSet id g was p) where
    abbrev new : Track
    new = g set.track

    new_id : new.id ≡ id
    new_id = sets.id set.track ∙ found_id id was set.track set.found

    new_valid : IsValidTrack s.block_size s.next_block s.next_track new
    new_valid =
        let before = valid_of s.block_size s.next_block s.next_track id was set.track set.found
        (current_valid disk s is).valid in
        let layout : set.track.layout ≡ new.layout = sym (sets.layout set.track) in
        record {
          given = omega (arith, before.given, sets.id set.track);
          gain = sets.gain set.track before.gain;
          layout = subst IsLayout layout before.layout;
          half_full = subst (AllHalfFull s.block_size) layout before.half_full;
          blocks = subst (AllClipsGiven s.next_block) layout before.blocks;
        }

    put_few : length (put_in new was) ≤ 64
    put_few = omega (arith, (current_valid disk s is).few, length-map was (put_one new))

    set_valid : IsValidPoint s.block_size s.next_block s.next_track p
    set_valid =
        let valid = current_valid disk s is in
        subst (IsValidPoint s.block_size s.next_block s.next_track) (sym set.is)
        (record {
          few = put_few;
          rising = put_rising new 1 was valid.rising;
          valid = put_valid s.block_size s.next_block s.next_track new was new_valid valid.valid;
        })

    set_names : (P : BlockRef → Type 0) → AllByRecursion P (named_blocks s) → AllByRecursion P (point_blocks p)
    set_names P all =
        let mine = old_names disk s is P all in
        let one = subst (λ (l : List Clip). AllByRecursion P (layout_blocks l)) (sym (sets.layout set.track))
        (layout_of P id was set.track set.found mine) in
        subst (λ (z : List Track). AllByRecursion P (point_blocks z)) (sym set.is) (put_all P new was one mine)

    set_like : IsLike was new
    set_like = search (rules, old, found_among)

    set_has : HasNumbers was s.next_layout p (s.next_layout + 0)
    set_has =
        let none : s.next_layout ≡ s.next_layout + 0 = omega arith in
        subst (λ (n : ℕ). HasNumbers was s.next_layout p n) none
        (subst (λ (z : List Track). HasNumbers was s.next_layout z s.next_layout) (sym set.is)
        (set_numbers was s.next_layout new set_like))

    set_means : changed_at id f (current (now disk s is)) ≡ meant samples p
    set_means =
        ap (changed_at id f) (current_meant disk s is)
        ∙ sym (ap (meant samples) set.is ∙ put_means samples id new set.track f new_id
        (sets.changes samples set.track) 1 was (current_valid disk s is).rising set.found)

  -- ---- the project that an edit makes
  place : refused_if (nat_lt 64 (length was + 1)) TrackLimit ≡ None → length was + 1 ≤ 64
  place none = ⊎_elim (λ more. absurd (none-some TrackLimit (sym none ∙ ap (λ b. refused_if b TrackLimit) more.0)))
      (λ few. omega (arith, few.1)) (leb_tells (64 + 1) (length was + 1))

  none_given : (p : List Track) → IsValidPoint s.block_size s.next_block s.next_track p
      → IsValidPoint s.block_size s.next_block (s.next_track + 0) p
  none_given p = valid_later s.block_size s.next_block s.next_track (s.next_track + 0) p (omega arith)

  valid_by : (e : PlainEdit) → IsGood e → refusal_by e was ≡ None → (p : List Track)
      → IsEdited e s.next_track s.next_layout was p
      → IsValidPoint s.block_size s.next_block (s.next_track + tracks_by e) p
  valid_by edit.Track good none p ed =
      let t : Track = empty_track s.next_track s.next_layout in
      let m : ℕ = s.block_size in
      let valid = current_valid disk s is in
      let later : IsValidPoint m s.next_block (s.next_track + 1) was =
      valid_later m s.next_block s.next_track (s.next_track + 1) was (omega arith) valid in
      let one : IsValidTrack m s.next_block (s.next_track + 1) t =
      record {
        given = omega arith;
        gain = omega arith;
        layout = record { apart = tt; few = omega arith };
        half_full = tt;
        blocks = tt;
      } in
      subst (IsValidPoint m s.next_block (s.next_track + 1)) (sym ed)
      (record {
        few = omega (arith, place none, length-append was (t ∷ []));
        rising = AreAbove-push 1 was t valid.rising (current_below disk s is) is.counters.track_least;
        valid = more_valid m s.next_block (s.next_track + 1) was t later.valid one;
      })
  valid_by (edit.Drop id) good none p ed =
      let valid = current_valid disk s is in
      let point : IsValidPoint s.block_size s.next_block s.next_track (without id was) = record {
        few = omega (arith, without_few id was, valid.few);
        rising = without_rising id 1 was valid.rising;
        valid = without_valid s.block_size s.next_block s.next_track id was valid.valid;
      } in
      none_given p (subst (IsValidPoint s.block_size s.next_block s.next_track) (sym ed) point)
  valid_by (edit.Level id gain) good none p ed =
      none_given p (set_valid id (set_by (edit.Level id gain)) _ (sets_gain id gain good) p ed)
  valid_by (edit.Side id side) good none p ed =
      none_given p (set_valid id (set_by (edit.Side id side)) _ (sets_side id side) p ed)
  valid_by (edit.Mute id mute) good none p ed =
      none_given p (set_valid id (set_by (edit.Mute id mute)) _ (sets_mute id mute) p ed)

  names_by : (e : PlainEdit) → IsGood e → (p : List Track) → IsEdited e s.next_track s.next_layout was p →
      (P : BlockRef → Type 0)
      → AllByRecursion P (named_blocks s) → AllByRecursion P (point_blocks p)
  names_by edit.Track good p ed P all = subst (λ (z : List Track). AllByRecursion P (point_blocks z)) (sym ed)
      (more_blocks P was s.next_track s.next_layout (old_names disk s is P all))
  names_by (edit.Drop id) good p ed P all = subst (λ (z : List Track). AllByRecursion P (point_blocks z)) (sym ed)
      (without_blocks P id was (old_names disk s is P all))
  names_by (edit.Level id gain) good p ed P all =
      set_names id (set_by (edit.Level id gain)) _ (sets_gain id gain good) p ed P all
  names_by (edit.Side id side) good p ed P all =
      set_names id (set_by (edit.Side id side)) _ (sets_side id side) p ed P all
  names_by (edit.Mute id mute) good p ed P all =
      set_names id (set_by (edit.Mute id mute)) _ (sets_mute id mute) p ed P all

  -- the numbers of its layouts
  numbers_by : (e : PlainEdit) → IsGood e → (p : List Track) → IsEdited e s.next_track s.next_layout was p
      → HasNumbers was s.next_layout p (s.next_layout + layouts_by e)
  numbers_by edit.Track good p ed =
      let next : ℕ = s.next_layout in
      subst (λ (z : List Track). HasNumbers was next z (next + 1)) (sym ed)
      (numbers_more was next was next (same_numbers was next) (empty_track s.next_track next) (inr refl) (next + 1)
      (omega arith) (λ e. omega arith))
  numbers_by (edit.Drop id) good p ed =
      let none : s.next_layout ≡ s.next_layout + 0 = omega arith in
      subst (λ (n : ℕ). HasNumbers was s.next_layout p n) none
      (subst (λ (z : List Track). HasNumbers was s.next_layout z s.next_layout) (sym ed)
      (without_numbers was s.next_layout id))
  numbers_by (edit.Level id gain) good p ed =
      set_has id (set_by (edit.Level id gain)) _ (sets_gain id gain good) p ed
  numbers_by (edit.Side id side) good p ed = set_has id (set_by (edit.Side id side)) _ (sets_side id side) p ed
  numbers_by (edit.Mute id mute) good p ed = set_has id (set_by (edit.Mute id mute)) _ (sets_mute id mute) p ed

  model_by : (e : PlainEdit) → IsGood e → (p : List Track) → IsEdited e s.next_track s.next_layout was p
      → after_line (outside (studio_of disk s) silent) (now disk s is) (line_of e)
      ≡ record (now disk s is) {
        history = meant_history samples (edited s.history p 0);
        next_track = s.next_track + tracks_by e;
        commit = s.commit_number + 1;
      }
  model_by edit.Track good p ed =
      let more : meant samples (was ++ empty_track s.next_track s.next_layout ∷ [])
      ≡ meant samples was ++ new_track s.next_track [] ∷ [] =
      map-append (meant_track samples) was (empty_track s.next_track s.next_layout ∷ []) in
      pointed disk s is p (current (now disk s is) ++ new_track s.next_track [] ∷ []) (s.next_track + 1)
      (ap (λ (q : Project). q ++ new_track s.next_track [] ∷ []) (current_meant disk s is) ∙ sym more
      ∙ sym (ap (meant samples) ed))
  model_by (edit.Drop id) good p ed =
      pointed_so disk s is p (dropped id (current (now disk s is)))
      (ap (dropped id) (current_meant disk s is) ∙ sym (without_means samples id 1 was (current_valid disk s is).rising)
      ∙ sym (ap (meant samples) ed))
  model_by (edit.Level id gain) good p ed = search (rules, pointed_so, set_means, sets_gain)
  model_by (edit.Side id side) good p ed = search (rules, pointed_so, set_means, sets_side)
  model_by (edit.Mute id mute) good p ed = search (rules, pointed_so, set_means, sets_mute)

  needs_so : (e : PlainEdit) (len : ℕ) → len ≤ project_body_most s.block_size
      (current (after_line (outside (studio_of disk s) silent) (now disk s is) (line_of e)))
      → LineNeeds (outside (studio_of disk s) silent) (studio_of disk s) (line_of e) 0 len
  needs_so edit.Track len h = (omega arith, h)
  needs_so (edit.Drop id) len h = (omega arith, h)
  needs_so (edit.Level id gain) len h = (omega arith, h)
  needs_so (edit.Side id side) len h = (omega arith, h)
  needs_so (edit.Mute id mute) len h = (omega arith, h)

  -- of a call that is refused before its record is made
  pub needs_none : (e : PlainEdit) → LineNeeds (outside (studio_of disk s) silent) (studio_of disk s) (line_of e) 0 0
  needs_none e = needs_so e 0 (omega arith)

  module _ (e : PlainEdit) (good : IsGood e) (none : refusal_by e was ≡ None) (p : List Track)
      (ed : IsEdited e s.next_track s.next_layout was p) where
    abbrev track_then : ℕ
    track_then = s.next_track + tracks_by e

    abbrev record_of : Writing
    record_of = single (Edit 0 s.next_block track_then p)

    pub valid : IsValidPoint s.block_size s.next_block track_then p
    valid = valid_by e good none p ed

    -- it names no other blocks
    pub names : (P : BlockRef → Type 0) → AllByRecursion P (named_blocks s) → AllByRecursion P (point_blocks p)
    names = names_by e good p ed

    -- the numbers of its layouts
    numbers : HasNumbers was s.next_layout p (s.next_layout + layouts_by e)
    numbers = numbers_by e good p ed

    -- its tracks agree with the current ones by their numbers
    pub edit_agrees : AgreeById was p
    edit_agrees = came_agrees disk s is p (s.next_layout + layouts_by e) numbers

    -- its layouts may be counted, by the counts of the studio
    pub edit_may : (tally : Tally) → uses_of tally ≡ s.uses → counts_of tally.ledger ≡ s.counts
        → MayBecome p (history_tracks s.history) tally
    edit_may tally uses_are counts_are =
        may_become disk s is p (s.next_layout + layouts_by e) numbers valid.few tally
        (same_counts tally uses_are counts_are)

    -- and the counts after it
    pub edit_counts : (tally tally' : Tally) → uses_of tally ≡ s.uses → counts_of tally.ledger ≡ s.counts
        → s.next_layout + layouts_by e ≤ 2 ^ 62
        → Becomes p (history_tracks s.history) (history_tracks (edited s.history p 0)) tally tally'
        → CountsAfter s.pins (edited s.history p 0) s.clipboard (s.next_layout + layouts_by e) s.counts
        (uses_of tally') (counts_of tally'.ledger)
    edit_counts tally tally' uses_are counts_are most becomes =
        subst (λ (ids : Counts). CountsAfter s.pins (edited s.history p 0) s.clipboard
        (s.next_layout + layouts_by e) ids
        (uses_of tally') (counts_of tally'.ledger)) counts_are
        (counts_then disk s is p (s.next_layout + layouts_by e)
        (edited s.history p 0) tally tally' numbers valid.few most
        (same_counts tally uses_are counts_are) becomes)

    short : (n : ℕ) → IsLength s record_of n → n ≤ project_body_most s.block_size
        (current (after_line (outside (studio_of disk s) silent) (now disk s is) (line_of e)))
    short n one =
        let meant_then = ap current (model_by e good p ed) ∙ then_current disk s is p in
        subst (λ (q : Project). n ≤ project_body_most s.block_size q) (sym meant_then)
        (lengths_most s s.next_block track_then samples s.block_size 0 s.next_block track_then p
        (omega (arith, is.format.block_least)) valid n one)

    module _ (ids : track_then ≤ 2 ^ 62) where
      edits : IsCommit (IsHeld disk s) disk s [] (Line (line_of e)) silent (tracks_by e) record_of
          (edited s.history p 0) s.clipboard track_then
      edits = point_commit disk s is track_then (omega arith) ids p valid [] (Line (line_of e)) silent
          (tracks_by e) s.clipboard (call_by e) refl
          (λ P all. names P (all_left P (named_blocks s) [] all)) (clip_stays s []) is.few_clips is.clipboard
          (λ held. model_by e good p ed) (λ held n one. needs_so e n (short n one))

      -- ---- the call
      module _ (going : s.stopped ≡ None) (number : s.commit_number < 2 ^ 62) where
        own : call_tests (outside (studio_of disk s) silent) (studio_of disk s).state (Line (line_of e)) ≡ None
        own = sym (own_is e) ∙ none

        -- the numbers of layouts that it needs
        draws : layouts_of (outside (studio_of disk s) silent) (studio_of disk s).state (Line (line_of e))
            ≡ layouts_by e
        draws = draws_by e (outside (studio_of disk s) silent) (studio_of disk s).state

        pub edit_fails : {Q : Type 0} (why : Refusal) (mid : Core D) → Fewer disk s.store
            → AddsDrawn {R = Q} disk s (layouts_by e) record_of (Err why) mid
            → Took disk s (quietly (Line (line_of e)) (Err why)) mid
        edit_fails why mid fewer drawn = ⊎_elim
            (λ added.
            fails disk s [] (Line (line_of e)) silent (tracks_by e) record_of (edited s.history p 0) s.clipboard
            track_then is (none_made disk s) edits going own ids (omega (arith, number))
            (omega (arith, added.0, draws)) why mid fewer added.1)
            (λ lacks.
            subst (λ (z : Core D). Took disk s (quietly (Line (line_of e)) (Err why)) z) (sym lacks.0)
            (undrawn disk s [] (Line (line_of e)) silent (tracks_by e) record_of (edited s.history p 0) s.clipboard
            track_then is (none_made disk s) edits going own ids (omega (arith, number)) why fewer
            (subst (λ (n : ℕ). Undrawn s.journal_end s.next_layout n (whole_len s record_of) why) (sym draws)
            lacks.1)))
            drawn

        pub edit_done : {Q : Type 0} (q : Q) (mid : Core D) (h' : History (List Track)) (uses : Uses) (counts : Counts)
            (next_track next_layout : ℕ)
            → AddsBody disk s record_of (Ok q) mid → h' ≡ edited s.history p 0
            → CountsAfter s.pins (edited s.history p 0) s.clipboard next_layout s.counts uses counts
            → next_track ≡ track_then → next_layout ≡ s.next_layout + layouts_by e
            → Took disk s (quietly (Line (line_of e)) (Ok Done)) (record mid {
              history = h';
              uses = uses;
              counts = counts;
              next_track = next_track;
              next_layout = next_layout;
            })
        edit_done q mid h' uses counts next_track next_layout adds moved after tracked drawn =
            let clip = ap (λ (z : Core D). z.clipboard) adds.fields.0 in
            let took = grows_so disk s [] (Line (line_of e)) silent (tracks_by e) record_of (edited s.history p 0)
            s.clipboard track_then is (none_made disk s) edits going own ids (omega (arith, number))
            (omega (arith, after.layouts, drawn, draws)) q mid adds
            h' uses counts next_track next_layout moved tracked after
            (omega (arith, drawn), omega (arith, drawn, draws)) in
            subst (λ z. Took disk s (quietly (Line (line_of e)) (Ok Done)) (record mid {
              history = h';
              clipboard = z;
              uses = uses;
              counts = counts;
              next_track = next_track;
              next_layout = next_layout;
            })) (sym clip) took
