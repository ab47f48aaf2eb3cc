-- The lines that paste: their own tests, what they lead to, and what refuses them.
use Rattle.editor_tracks.proofs.Common.{◌≡◌, refl, ap, ◌∙◌, ℕ, ◌+◌, ℤ, Option, Some, None, List, length, map, Err}
use Rattle.editor_tracks.proofs.Common.{arith, Call, Line, Refusal, run_edited, edited, layouts_of, Outside, call_tests}
use Rattle.editor_tracks.proofs.Common.{placed_length, outside, blocks_of_tracks, State, clip_of, current, after}
use Rattle.editor_tracks.proofs.Common.{Placing, placed, paste_line, Ghosts, Fewer, samples_on, Track, track_of}
use Rattle.editor_tracks.proofs.Common.{IsValidPoint, current_tracks, Core, IsEditCall, alone, IsStudio, studio_by}
use Rattle.editor_tracks.proofs.Common.{studio_of, Took, quietly, silent, NoPastePlan, current_valid, current_is}
use Rattle.pcm_base.specs.{declared.edits.Placing.TheVariants.Insert}
use Rattle.editor_tracks.specs.Pastes.{paste_refusal}
use Rattle.editor_tracks.proofs.{EditCalls.edit_refused, EditCalls.edit_stopped, EditCalls.one_edit}
use Rattle.editor_tracks.proofs.PasteLaws.{line_tests, line_tests_are}
use Rattle.pcm_base.specs.declared.refusal.Refusal.TheVariants as refusal
use Rattle.pcm_base.specs.Studio as model

pub paste_call : (e : Placing) (id at : ℕ)
    → IsEditCall (Line (paste_line e id at)) silent 0 0 (λ m st. blocks_of_tracks (length (clip_of st)))
paste_call Insert id at = one_edit (assumption) (assumption)
paste_call e id at = one_edit (assumption) (assumption)

own_by : (e : Placing) (id at : ℕ) (out : Outside) (st : State) → call_tests out st (Line (paste_line e id at))
    ≡ line_tests (placed_length e at) id st.clipboard (clip_of st) (current st)
own_by Insert id at out st = refl
own_by e id at out st = refl

pub draws_by : (e : Placing) (id at : ℕ) (out : Outside) (st : State)
    → layouts_of out st (Line (paste_line e id at)) ≡ length (clip_of st)
draws_by Insert id at out st = refl
draws_by e id at out st = refl

pub after_by : (e : Placing) (id at : ℕ) (out : Outside) (st : State) → after out st (Line (paste_line e id at))
    ≡ record st {
      history = edited st.history (run_edited id (map (placed e at) (clip_of st)) (current st)) 0;
      commit = st.commit + 1;
    }
after_by Insert id at out st = refl
after_by e id at out st = refl

module _ {D : Type 0} (disk : Ghosts D) (s : Core D) (is : IsStudio disk s) (e : Placing) (id at : ℕ) where
  abbrev old : List Track
  old = current_tracks s.history

  abbrev line : Call
  line = Line (paste_line e id at)

  abbrev t : model.Studio
  t = studio_of disk s

  abbrev refused_by : Option Refusal
  refused_by = paste_refusal e id at s.clipboard old

  old_valid : IsValidPoint s.block_size s.next_block s.next_track old
  old_valid = current_valid disk s is

  pub own_is : (block : ℕ → ℕ → ℤ) → call_tests (outside (studio_by (alone block) disk s) silent)
      (studio_by (alone block) disk s).state line ≡ refused_by
  own_is block =
      let src = alone block in
      let u = studio_by src disk s in
      own_by e id at (outside u silent) u.state
      ∙ ap (line_tests (placed_length e at) id u.state.clipboard (clip_of u.state)) (current_is src s.history)
      ∙ line_tests_are src (placed_length e at) id s.block_size s.next_block s.next_track s.clipboard old
      old_valid.rising old_valid.valid (track_of id old) refl

  -- ---- a stopped studio, a test of the edit, or memory

  pub paste_stopped : (faults : ℕ) → Fewer disk s.store → s.stopped ≡ Some faults
      → Took disk s (quietly line (Err (refusal.Stopped faults))) s
  paste_stopped faults fewer = edit_stopped disk s is fewer (paste_call e id at) (omega arith) refused_by
      (own_is (samples_on (disk.reads s.store))) faults

  pub paste_refused : (why : Refusal) → Fewer disk s.store → s.stopped ≡ None → NoPastePlan e id at s why
      → Took disk s (quietly line (Err why)) s
  paste_refused why fewer = edit_refused disk s is fewer (paste_call e id at) (omega arith) refused_by
      (own_is (samples_on (disk.reads s.store))) why
