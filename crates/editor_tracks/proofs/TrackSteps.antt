-- An edit of one track by a plan, as an edit that makes blocks.
use Rattle.editor_tracks.proofs.Common.{◌≡◌, refl, sym, ap, ◌∙◌, subst, ℕ, suc, ◌+◌, ◌≤◌, ◌<◌, ℤ, rules}
use Rattle.editor_tracks.proofs.Common.{Option, Some, None, List, [], ◌∷◌, length, Err, arith, Project}
use Rattle.editor_tracks.proofs.Common.{tracks_from, cells_at, with_cells, edited_at, changed_at, ◌otherwise◌}
use Rattle.editor_tracks.proofs.Common.{call_tests, refused_if, is_empty, outside, Call, SoundMove, Refusal, Cell}
use Rattle.editor_tracks.proofs.Common.{recorded, Sources, current, Ghosts, Fewer, samples_on, layout_cells, end_of}
use Rattle.editor_tracks.proofs.Common.{length-layout, NewBlock, brought, brought_by, brought_count, Track, meant}
use Rattle.editor_tracks.proofs.Common.{track_of, current_tracks, IsValidPoint, AllValidTracks, meant_recorded, IsEdit}
use Rattle.editor_tracks.proofs.Common.{alone, IsEditCall, clip_then, tagged_by, IsStudio, studio_by, studio_of}
use Rattle.editor_tracks.proofs.Common.{clip_cells, Planned, Core, lacks, Took, with_sound, IsTrackCall, IsTrackPlan}
use Rattle.editor_tracks.proofs.Common.{NoTrackPlan, TrackEdit, track_command, track_refusal, current_is, lacks_is}
use Rattle.editor_tracks.proofs.Common.{valid_of, current_valid}
use Rattle.pcm_base.specs.{declared.refusal.Refusal.TheVariants.NoTrack}
use Rattle.block_writer.specs.declared.given.Given.{Given}
use Rattle.editor_commits.proofs.{CursorTracks.cells_meant}
use Rattle.editor_tracks.proofs.{EditCalls.edit_refused, EditCalls.edit_stopped, TrackPlans.point_means}
use Rattle.pcm_base.specs.declared.refusal.Refusal.TheVariants as refusal
use Rattle.pcm_base.specs.Studio as model

-- ---- what refuses the edit of a track

refusal_is : (src : Sources) (id : ℕ) (test : ℕ → Option Refusal) (m next track : ℕ) (ts : List Track)
    → AllValidTracks m next track ts → (o : Option Track) → track_of id ts ≡ o
    → ((refused_if (is_empty (tracks_from id (meant src ts))) (NoTrack id)) otherwise
    (test (length (cells_at id (meant src ts))))) ≡ track_refusal id test o
refusal_is src id test m next track ts valid None found = search (rules, lacks_is)
refusal_is src id test m next track ts valid (Some t) found =
    let first = lacks_is src id ts ∙ ap (lacks id) found in
    let is = valid_of m next track id ts t found valid in
    let long : length (cells_at id (meant src ts)) ≡ end_of 0 t.layout =
    ap length (cells_meant src id ts t found) ∙ length-layout src t.layout is.layout.apart in
    λ i. (first i) otherwise (test (long i))

edited_changed : (id : ℕ) (f : List Cell → List Cell) (p : Project) → edited_at id f p ≡ changed_at id (with_cells f) p
edited_changed id f [] = refl
edited_changed id f (t ∷ ts) = search (rules, edited_changed id f ts)

module _ {D : Type 0} (disk : Ghosts D) (s : Core D) (is : IsStudio disk s) (c : Call) (sound : SoundMove)
    (e : TrackEdit) (given : Given) (id tag more : ℕ)
    (line : IsTrackCall c sound (track_command e given id tag more)) where
  abbrev old : List Track
  old = current_tracks s.history

  abbrev t : model.Studio
  t = studio_of disk s

  abbrev found : Option Track
  found = track_of id old

  old_valid : IsValidPoint s.block_size s.next_block s.next_track old
  old_valid = current_valid disk s is

  own_is : (block : ℕ → ℕ → ℤ) → call_tests (outside (studio_by (alone block) disk s) sound)
      (studio_by (alone block) disk s).state c ≡ track_refusal id e.test found
  own_is block =
      let src = alone block in
      let u = studio_by src disk s in
      line.own (outside u sound) u.state
      ∙ ap (λ (q : Project). (refused_if (is_empty (tracks_from id q)) (NoTrack id)) otherwise
      (e.test (length (cells_at id q)))) (current_is src s.history)
      ∙ refusal_is src id e.test s.block_size s.next_block s.next_track old old_valid.valid found refl

  -- ---- a stopped studio, a test of the edit, or memory

  pub track_stopped : (faults : ℕ) → Fewer disk s.store → more < 64 → s.stopped ≡ Some faults
      → Took disk s (with_sound c sound (Err (refusal.Stopped faults))) s
  track_stopped faults fewer few = edit_stopped disk s is fewer line.call few (track_refusal id e.test found)
      (own_is (samples_on (disk.reads s.store))) faults

  pub track_refused : (why : Refusal) → Fewer disk s.store → more < 64 → s.stopped ≡ None
      → NoTrackPlan e id old why
      → Took disk s (with_sound c sound (Err why)) s
  track_refused why fewer few = search (rules, edit_refused, own_is)

  -- ---- what the call means

  module _ (planned : Planned) (p : IsTrackPlan e (brought_count given) id s planned) (none : planned.tracks ≡ 0)
      (keeps : planned.clip ≡ None) where
    pub track_edit : IsEdit disk s c sound (tagged_by planned tag more (brought_by given) (brought given))
    track_edit = record {
      most = λ m st. e.most m (cells_at id (current st));
      call =
          subst (λ (k : ℕ). IsEditCall c sound k more (λ m st. e.most m (cells_at id (current st)))) (sym none)
          line.call;
      few = λ block.
          let src = alone block in
          let cells : cells_at id (current (studio_by src disk s).state) ≡ layout_cells src p.track.layout =
          ap (cells_at id) (current_is src s.history) ∙ cells_meant src id old p.track p.found in
          subst (λ (bs : List NewBlock). length bs
          ≤ e.most s.block_size (cells_at id (current (studio_by src disk s).state))) (sym p.makes_is)
          (subst (λ (xs : List Cell). length p.plan.makes ≤ e.most s.block_size xs) (sym cells) (p.few src));
      own = λ block. own_is block ∙ (λ i. track_refusal id e.test (p.found i)) ∙ p.tests;
      layouts = λ block.
          let u = studio_by (alone block) disk s in line.layouts_is (outside u sound) u.state ∙ sym p.layouts_is;
      means = λ block written.
          let src = alone block in
          let u = studio_by src disk s in
          let now_state = u.state in
          let f = e.cells (brought given) in
          let point : edited_at id f (current now_state) ≡ meant src planned.point =
          ap (edited_at id f) (current_is src s.history) ∙ edited_changed id f (meant src old)
          ∙ sym (point_means disk s is e given id planned p block written) in
          let same : s.next_track ≡ s.next_track + planned.tracks = omega (arith, none) in
          line.after_is (outside u sound) now_state
          ∙ (λ i. record now_state {
            history = recorded now_state.history (point i) tag;
            commit = s.commit_number + suc more;
          })
          ∙ (λ i. record now_state {
            history = sym (meant_recorded src s.history planned.point tag) i;
            clipboard = clip_cells src (clip_then (sym keeps i) s.clipboard);
            next_track = same i;
            commit = s.commit_number + suc more;
          });
    }
