-- The lines that take a range of a run out: their own tests, what they lead to, and what refuses them.
use Rattle.editor_tracks.proofs.Common.{◌≡◌, refl, ap, ◌∙◌, ℕ, ◌+◌, ℤ, Option, Some, None, List, length, take}
use Rattle.editor_tracks.proofs.Common.{replicate, Err, arith, Project, longest, run_edited, tracks_from, ◌otherwise◌}
use Rattle.editor_tracks.proofs.Common.{bad_range, call_tests, is_empty, refused_if, too_narrow, Call, Line, Refusal}
use Rattle.editor_tracks.proofs.Common.{edited, layouts_of, Outside, outside, blocks_of_tracks, State, current, after}
use Rattle.editor_tracks.proofs.Common.{copied, Removing, removed, Ghosts, Fewer, samples_on, Track, track_of}
use Rattle.editor_tracks.proofs.Common.{IsValidPoint, current_tracks, RunRange, NoCutPlan, cut_line, Core, IsEditCall}
use Rattle.editor_tracks.proofs.Common.{alone, IsStudio, studio_by, studio_of, Took, quietly, silent, current_valid}
use Rattle.editor_tracks.proofs.Common.{current_is}
use Rattle.pcm_base.specs.{declared.edits.Removing.TheVariants.Close}
use Rattle.editor_tracks.specs.{Cuts.cut_refusal}
use Rattle.editor_tracks.proofs.{CutLaws.run_tests_are, EditCalls.edit_refused, EditCalls.edit_stopped}
use Rattle.editor_tracks.proofs.{EditCalls.one_edit}
use Rattle.pcm_base.specs.declared.refusal.Refusal.TheVariants as refusal
use Rattle.pcm_base.specs.Studio as model

pub cut_call : (e : Removing) (range : RunRange)
    → IsEditCall (Line (cut_line e range)) silent 0 0 (λ m st. blocks_of_tracks range.count)
cut_call Close range = one_edit (assumption) (assumption)
cut_call e range = one_edit (assumption) (assumption)

-- the own tests of both lines
abbrev line_tests : (id n from to : ℕ) → Project → Option Refusal
line_tests id n from to p =
    (refused_if (is_empty (tracks_from id p)) (refusal.NoTrack id)) otherwise (too_narrow (length (tracks_from id p)) n)
    otherwise (bad_range from to (longest (take n (tracks_from id p))))

own_by : (e : Removing) (range : RunRange) (out : Outside) (st : State)
    → call_tests out st (Line (cut_line e range))
    ≡ line_tests range.track range.count range.from range.to (current st)
own_by Close range out st = refl
own_by e range out st = refl

pub draws_by : (e : Removing) (range : RunRange) (out : Outside) (st : State)
    → layouts_of out st (Line (cut_line e range)) ≡ range.count
draws_by Close range out st = refl
draws_by e range out st = refl

pub after_by : (e : Removing) (range : RunRange) (out : Outside) (st : State) → after out st (Line (cut_line e range))
    ≡ record st {
      history = edited st.history
          (run_edited range.track (replicate range.count (removed e range.from range.to)) (current st)) 0;
      commit = st.commit + 1;
      clipboard = Some (copied range.track range.count range.from range.to (current st));
    }
after_by Close range out st = refl
after_by e range out st = refl

module _ {D : Type 0} (disk : Ghosts D) (s : Core D) (is : IsStudio disk s) (e : Removing) (range : RunRange)
    (fewer : Fewer disk s.store) where
  open range use {track as id, count as n, from, to}

  abbrev old : List Track
  old = current_tracks s.history

  abbrev line : Call
  line = Line (cut_line e range)

  abbrev t : model.Studio
  t = studio_of disk s

  old_valid : IsValidPoint s.block_size s.next_block s.next_track old
  old_valid = current_valid disk s is

  pub own_is : (block : ℕ → ℕ → ℤ) → call_tests (outside (studio_by (alone block) disk s) silent)
      (studio_by (alone block) disk s).state line ≡ cut_refusal range old
  own_is block =
      let src = alone block in
      let u = studio_by src disk s in
      own_by e range (outside u silent) u.state
      ∙ ap (line_tests id n from to) (current_is src s.history)
      ∙ run_tests_are src id n from to s.block_size s.next_block s.next_track old old_valid.rising old_valid.valid
      (track_of id old) refl

  -- ---- a stopped studio, a test of the edit, or memory

  pub cut_stopped : (faults : ℕ) → s.stopped ≡ Some faults → Took disk s (quietly line (Err (refusal.Stopped faults))) s
  cut_stopped = edit_stopped disk s is fewer (cut_call e range) (omega arith) (cut_refusal range old)
      (own_is (samples_on (disk.reads s.store)))

  pub cut_refused : (why : Refusal) → s.stopped ≡ None → NoCutPlan range s why
      → Took disk s (quietly line (Err why)) s
  cut_refused = edit_refused disk s is fewer (cut_call e range) (omega arith) (cut_refusal range old)
      (own_is (samples_on (disk.reads s.store)))
