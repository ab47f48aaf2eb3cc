-- An edit that makes blocks, refused before the first of them.
use Rattle.editor_edits.proofs.Common.{◌≡◌, inl, inr, ⊎_elim, refl, sym, subst, ℕ, suc, ◌+◌, ◌≤◌, None, List, length}
use Rattle.editor_edits.proofs.Common.{Err, ◌∙◌, true, false, arith, true≢false, Call, SoundMove, Refusal, Needs}
use Rattle.editor_edits.proofs.Common.{History, recorded, outside, Ghosts, Fewer, Edit, Track, IsLength, Writing}
use Rattle.editor_edits.proofs.Common.{all_len, whole_len, IsEdit, IsPlanned, TaggedEdit, Core, may_begin, IsStudio}
use Rattle.editor_edits.proofs.Common.{studio_of, Took, with_sound, unprepared_plain, commit_frees, commit_removes_none}
use Rattle.pcm_base.specs.{declared.limits.TheConstants.LONGEST_BODY}
use Rattle.editor_state.specs.Edits.{NotPrepared}
use Rattle.editor_state.specs.{Adding.Outgrows, Spent.WouldMake}
use Rattle.editor_state.proofs.Refusals.VaultRefusals.{inside_begins_none, unprepared_asks}
use Rattle.editor_state.proofs.Refusals.CommitTests.{counter_spent, exceeded}
use Rattle.editor_state.proofs.Refusals.CounterNumbers.{outgrowing_needed, spent_needed}
use Rattle.editor_state.proofs.Refusals.EarlyRefusals.{refuses, wants}
use Rattle.editor_edits.proofs.EditPlans.{edit_draws, edit_needs, edit_own}
use Rattle.pcm_base.specs.declared.refusal.Refusal.TheVariants as refusal
use Rattle.pcm_base.specs.Studio as model

module _ {D : Type 0} (disk : Ghosts D) (s : Core D) (is : IsStudio disk s) (going : s.stopped ≡ None)
    (e : TaggedEdit) (plan : IsPlanned s e) (c : Call) (sound : SoundMove) (edit : IsEdit disk s c sound e)
    (fewer : (store : D) → Fewer disk store) where
  open e use {tag, plan.{tracks, point}}

  abbrev n : ℕ
  n = length e.plan.makes

  abbrev h : History (List Track)
  h = recorded s.history point tag

  abbrev track_then : ℕ
  track_then = s.next_track + tracks

  abbrev writes : Writing
  writes = record { more = e.more; body = Edit tag (s.next_block + n) track_then point }

  abbrev len : ℕ
  len = all_len s writes

  abbrev t : model.Studio
  t = studio_of disk s

  need : (k : ℕ) → k ≤ n → Needs (outside t sound) t c k len
  need = edit_needs disk s is going e plan c sound edit len (inr refl)

  pub not_prepared : (why : Refusal) (new : Core D) → new ≡ s
      → NotPrepared s n tracks e.plan.layouts (suc e.more) (whole_len s writes) len why
      → Took disk s (with_sound c sound (Err why)) new
  not_prepared why new same not =
      let commit = edit.call.commit in
      let own = edit_own disk s is going e plan c sound edit in
      let would : WouldMake disk s c sound = record {
        writes = writes;
        commits = commit.many;
        blocks = n;
        so = inl (record { edit = e; planned = plan; means = edit; blocks_are = refl; writes = refl });
      } in
      let none : may_begin why ≡ false =
      inside_begins_none why (unprepared_asks s n tracks e.plan.layouts (suc e.more) (whole_len s writes) len why not)
      (unprepared_plain s n tracks e.plan.layouts (suc e.more) (whole_len s writes) len why not) in
      let draws = edit_draws disk s is going e plan c sound edit in
      let brief : (k : ℕ) → may_begin why ≡ true → k ≤ LONGEST_BODY = λ k off. absurd (true≢false (sym off ∙ none)) in
      let test =
      refuses disk s c sound why is (fewer s.store) (commit_frees disk s c (Err why) s commit.many) commit.quiet
      len (brief len) n (λ held. need n (omega arith)) in
      let memory : Took disk s (with_sound c sound (Err refusal.NoMemory)) s =
      wants disk s c sound is (fewer s.store) (commit_removes_none c commit.many) commit.quiet len
      (λ held. (0, need 0 (omega arith))) in
      subst (λ (z : Core D). Took disk s (with_sound c sound (Err why)) z) (sym same)
      (⊎_elim
      (λ want. subst (λ (e : Refusal). Took disk s (with_sound c sound (Err e)) s) (sym want) memory)
      (⊎_elim
      (λ spent. test (counter_spent t c sound tracks commit n len is.counters.pin_most
      is.journal.generation_most going own why spent)
      (spent_needed disk s c sound tracks commit would why spent))
      (λ over.
      let exceeds = λ (k : ℕ) (one : IsLength s writes k)
      (h : Outgrows s.journal_end s.next_layout e.plan.layouts k why).
      refuses disk s c sound why is (fewer s.store) (commit_frees disk s c (Err why) s commit.many) commit.quiet k
      (brief k) n (λ held. edit_needs disk s is going e plan c sound edit k one n (omega arith))
      (exceeded t c sound tracks commit n k is.counters.pin_most is.journal.generation_most going own over.0 over.1
      over.2
      why (subst (λ (m : ℕ). Outgrows s.journal_end s.next_layout m k why) (sym draws) h))
      (outgrowing_needed disk s c sound would k one e.plan.layouts (sym draws) why h) in
      ⊎_elim (exceeds (whole_len s writes) (inl refl)) (exceeds len (inr refl)) over.3))
      not)
