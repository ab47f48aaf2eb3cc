-- What an undo, a redo or a purge answers.
use Rattle.editor_core.proofs.Common.{◌≡◌, ◌∙◌, sym, subst, ℕ, ◌≤◌, Bool, Option, Some, Result, Err, IfErr, IfOk, Done}
use Rattle.editor_core.proofs.Common.{Call, LONGEST_BODY, Refusal, ◌otherwise◌, after_err, Ghosts, IsUndamaged}
use Rattle.editor_core.proofs.Common.{IsNoWant, Core, IsHeld, IsStudio, Took, as_reply, quietly, silent, TellsNone}
use Rattle.editor_core.proofs.Common.{undamaged_test, tested_out}
use Rattle.std.specs.Prelude.{IsErrAnd}
use Rattle.pcm_base.specs.{Counters.Needs, Counters.no_room, Refusals.call_tests, Refusals.refused_if, Run.outside}
use Rattle.pcm_base.specs.{Run.stop_of}
use Rattle.disk_model.proofs.Frames.{Fewer}
use Rattle.editor_state.specs.{Studios.studio_of}
use Rattle.editor_state.proofs.Refusals.CommitTests.{IsCommitCall}
use Rattle.editor_state.proofs.Refusals.DamageTests.{one_tells}
use Rattle.editor_commits.proofs.MoveSteps.{no_want, other_reason}

-- all that is promised of the answer to one
pub record IsMove {D : Type 0} (disk : Ghosts D) (s : Core D) (call : Call) (result : Result ℕ Refusal) (new : Core D)
    : Type 0 where
  pub took : Took disk s (quietly call (as_reply (λ (n : ℕ). Done) result)) new
  pub number : IfOk result (λ n. n ≡ new.commit_number)
  pub memory : IfErr result IsNoWant
  pub undamaged : IfErr result IsUndamaged

-- its record was not added
pub unadded : {D : Type 0} (disk : Ghosts D) (s mid : Core D) (call : Call) (why : Refusal) (r : Result ℕ Refusal)
    → IsErrAnd r (λ y. y ≡ why) → Took disk s (quietly call (Err why)) mid → IsNoWant why → IsUndamaged why
    → IsMove disk s call r mid
unadded disk s mid call why r is took memory undamaged =
    after_err (λ r. IsMove disk s call r mid) why r is
    (record { took = took; number = tt; memory = memory; undamaged = undamaged })

-- a test refuses it, for one reason of its own, or for those of any commit
pub refused : {D : Type 0} (disk : Ghosts D) (s : Core D) → IsStudio disk s → Fewer disk s.store → (call : Call)
    (len : ℕ) (test : Bool) (reason : Refusal) (own : Option Refusal) (why : Refusal) → IsNoWant reason
    → IsUndamaged reason → IsCommitCall call silent 0 0 → len ≤ LONGEST_BODY
    → (IsHeld disk s → Needs (outside (studio_of disk s) silent) (studio_of disk s) call 0 len)
    → own ≡ refused_if test reason → own ≡ call_tests (outside (studio_of disk s) silent) (studio_of disk s).state call
    → (stop_of s.stopped) otherwise own otherwise (no_room s.next_track 0) otherwise (no_room s.commit_number 1)
    ≡ Some why → (r : Result ℕ Refusal) → IsErrAnd r (λ y. y ≡ why) → IsMove disk s call r s
refused disk s is fewer call len test reason own why wants tells commits short needs value is_own h r err =
    unadded disk s s call why r err (tested_out disk s call 0 len own why is fewer commits short needs is_own h)
    (no_want s.stopped own s.next_track 0 s.commit_number why
    (λ r e. other_reason test reason wants r (sym value ∙ e)) h)
    (undamaged_test s.stopped own s.next_track 0 s.commit_number why
    (subst TellsNone (sym value) (one_tells test reason tells)) h)
