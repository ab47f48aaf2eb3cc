-- Calls that edit tracks: what a line that is one commit needs, and what refuses such a call before a plan is made.
use Rattle.editor_tracks.proofs.Common.{◌≡◌, ◌⊎◌, ⊎_elim, sym, ◌∙◌, subst, ℕ, ◌+◌, ◌*◌, ◌≤◌, ◌<◌, Option, Some, None}
use Rattle.editor_tracks.proofs.Common.{Err, arith, rules, Call, SoundMove, Refusal, EditNeeds, ◌otherwise◌, call_tests}
use Rattle.editor_tracks.proofs.Common.{outside, stop_of, State, Ghosts, Fewer, Core, IsEditCall, outside_at, IsStudio}
use Rattle.editor_tracks.proofs.Common.{studio_of, Took, silent, with_sound}
use Rattle.std.proofs.Common.{◌↔◌, mul-le-mul_left}
use Rattle.pcm_base.specs.{Counters.Needs}
use Rattle.editor_state.specs.{Commits.IsCommitCall}
use Rattle.editor_state.proofs.Calls.FileRemovals.{commit_frees, commit_removes_none}
use Rattle.editor_state.proofs.Refusals.EarlyRefusals.{refuses, wants}
use Rattle.editor_state.proofs.{Refusals.CommitTests.early, Refusals.CounterNumbers.early_needed}
use Rattle.pcm_base.specs.declared.refusal.Refusal.TheVariants as refusal
use Rattle.pcm_base.specs.Studio as model

-- a line that is one commit, and needs what an edit does
pub one_edit : {c : Call} {most : ℕ → State → ℕ} → IsCommitCall c silent 0 0
    → ((rate : ℕ) (t : model.Studio) (blocks len : ℕ)
    → EditNeeds (most t.block_size t.state) (outside_at rate silent) t c blocks len
    ↔ Needs (outside_at rate silent) t c blocks len)
    → IsEditCall c silent 0 0 most
one_edit commit same = search rules

-- as few bytes as this many records have
least_needs : (more low high : ℕ) {most : ℕ} → (0 ≤ most) × (5 * more ≤ 5 * more) × (5 * more ≤ more * (5 + low) + high)
least_needs more low high = search (rules, mul-le-mul_left)

-- ---- a stopped studio, a test of the edit, or memory

module _ {D : Type 0} (disk : Ghosts D) (s : Core D) (is : IsStudio disk s) (fewer : Fewer disk s.store) {c : Call}
    {sound : SoundMove} {more : ℕ} {most : ℕ → State → ℕ} (call : IsEditCall c sound 0 more most) (few : more < 64)
    (tests : Option Refusal)
    (own : call_tests (outside (studio_of disk s) sound) (studio_of disk s).state c ≡ tests) where
  abbrev t : model.Studio
  t = studio_of disk s

  early_refused : (why : Refusal) → ((stop_of s.stopped) otherwise tests) ≡ Some why
      → Took disk s (with_sound c sound (Err why)) s
  early_refused why h =
      let first : ((stop_of s.stopped) otherwise (call_tests (outside t sound) t.state c)) ≡ Some why =
      (λ i. (stop_of s.stopped) otherwise (own i)) ∙ h in
      refuses disk s c sound why is fewer (commit_frees disk s c (Err why) s call.commit.many)
      call.commit.quiet (5 * more) (λ off. omega (arith, few)) 0
      (λ held. call.needs t.rate t 0 (5 * more) (least_needs more _ _))
      (early t c sound 0 call.commit 0 (5 * more) why first) (early_needed disk s c sound why first)

  pub edit_stopped : (faults : ℕ) → s.stopped ≡ Some faults
      → Took disk s (with_sound c sound (Err (refusal.Stopped faults))) s
  edit_stopped faults at = early_refused (refusal.Stopped faults) (λ i. (stop_of (at i)) otherwise tests)

  pub edit_refused : (why : Refusal) → s.stopped ≡ None → (tests ≡ Some why) ⊎ (why ≡ refusal.NoMemory)
      → Took disk s (with_sound c sound (Err why)) s
  edit_refused why going not = ⊎_elim
      (λ test. early_refused why ((λ i. (stop_of (going i)) otherwise tests) ∙ test))
      (λ memory.
      subst (λ (r : Refusal). Took disk s (with_sound c sound (Err r)) s) (sym memory)
      (wants disk s c sound is fewer (commit_removes_none c call.commit.many) call.commit.quiet (5 * more)
      (λ held. (0, call.needs t.rate t 0 (5 * more) (least_needs more _ _)))))
      not
