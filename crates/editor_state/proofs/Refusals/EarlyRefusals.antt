-- A call that is refused before the disk is asked, and what a record asks of it.
use Rattle.editor_state.proofs.Common.{◌≡◌, inl, inr, refl, sym, ℕ, suc, ◌≤◌, List, [], Option, Some, None, IsSome, Err}
use Rattle.editor_state.proofs.Common.{true, true≢false, none-some, AllByRecursion, BlockRef, Call, SoundMove, Refusal}
use Rattle.editor_state.proofs.Common.{LONGEST_BODY, Needs, commits_of, Answers, outside, refusal_of, Ghosts, Fewer}
use Rattle.editor_state.proofs.Common.{changed_none, kept_none, AllWhole, EachNow, IsGiven, IsHeld, IsStudio}
use Rattle.editor_state.proofs.Common.{SameBlocks, studio_of, Core, may_begin, MayRemove, Purges, Frees, Needed}
use Rattle.editor_state.proofs.Common.{Exchange, Took, asks, with_sound, rules}
use Rattle.disk_model.specs.{Room.IsWithin}
use Rattle.project_journal.specs.{Rooms.append_room}
use Rattle.editor_state.proofs.Refusals.RefusalEffects.{IsPlain, left_plain}
use Rattle.editor_state.proofs.Refusals.PurgeNumbers.{other_purges, tested_purges}
use Rattle.editor_state.proofs.Calls.FileRemovals.{RemovesNone, frees_refused, ids_same}
use Rattle.editor_state.proofs.{Images.ImageProjects.keeps_now, Calls.OtherFiles.others_none}
use Rattle.editor_state.proofs.{Refusals.CallTests.plain_refusal, Refusals.CommitTests.commit_places}
use Rattle.pcm_base.specs.declared.refusal.Refusal.TheVariants as refusal

pub some_none : {A : Type 0} (x : A) → Some x ≡ None → ⊥
some_none x e = none-some x (sym e)

pub stopped_not : (o : Option ℕ) → IsSome o → o ≡ None → ⊥
stopped_not None some none = cc
stopped_not (Some n) some none = some_none n none

-- a record asks no more than a commit may
pub record_within : {more : ℕ} (exchange : Exchange) (journal : Option (List ℕ)) (m blocks len packed : ℕ)
    → commits_of exchange.call ≡ suc more
    → IsWithin (append_room journal len) (asks exchange journal m blocks len packed)
record_within exchange journal m blocks len packed many = search (rules, commit_places)

-- Blocks that were made for a commit: where `Has`, each is on the disk, in each image.
pub record HasMade {D : Type 0} (Has : Type 0) (disk : Ghosts D) (s : Core D) (made : List BlockRef) : Type 0 where
  pub ids : AllByRecursion (λ (b : BlockRef). IsGiven s.next_block b.id) made
  pub whole : Has → AllWhole (disk.reads s.store) made
  pub same : Has → EachNow disk s.store (SameBlocks made (disk.reads s.store))

pub none_made : {D : Type 0} (disk : Ghosts D) (s : Core D) → HasMade (IsHeld disk s) disk s []
none_made disk s = record { ids = tt; whole = λ held. tt; same = λ held c now. tt }

-- what a call may need of a studio
abbrev pub MayNeed : {D : Type 0} → Ghosts D → Core D → Call → SoundMove → ℕ → Type 0
MayNeed disk s call sound len =
    IsHeld disk s → (blocks : ℕ) × Needs (outside (studio_of disk s) sound) (studio_of disk s) call blocks len

module _ {D : Type 0} (disk : Ghosts D) (s : Core D) (call : Call) (sound : SoundMove) (why : Refusal)
    (is : IsStudio disk s) (fewer : Fewer disk s.store) (frees : Frees disk s call (Err why) [] s)
    (quiet : sound.after ≡ sound.before) (len : ℕ) (brief : may_begin why ≡ true → len ≤ LONGEST_BODY) where
  -- a refusal that asked nothing of the disk
  pub stays : Purges s.history call (Err why) → IsPlain why → MayNeed disk s call sound len
      → Needed disk s call sound why
      → (IsHeld disk s → Answers (studio_of disk s) call sound (Err why) (studio_of disk s))
      → Took disk s (with_sound call sound (Err why)) s
  stays purges plain needs needed step = record {
    studio = is;
    held = λ held. held;
    step = step;
    any_moment = λ going held c now. inl (keeps_now disk s is.journal.among going held c now);
    refused = λ going held still c now. keeps_now disk s is.journal.among going held c now;
    now = λ going held. keeps_now disk s is.journal.among going held;
    number = refl;
    rests = λ some. refl;
    len = len;
    needs = needs;
    records = brief;
    given = tt;
    needed = needed;
    changed = changed_none s.store (others_none s.next_block s.next_block (MayRemove call s.counts)) fewer;
    frees = frees;
    ids = ids_same s s refl refl;
    purges = purges;
    untouched = λ device. kept_none s.store fewer;
    stops = inl (refl, refl);
    left = left_plain disk s s.store why plain;
  }

  -- by a test
  pub refuses : (blocks : ℕ)
      → (IsHeld disk s → Needs (outside (studio_of disk s) sound) (studio_of disk s) call blocks len)
      → refusal_of (outside (studio_of disk s) sound) (studio_of disk s) call blocks len ≡ Some why
      → Needed disk s call sound why → Took disk s (with_sound call sound (Err why)) s
  refuses blocks needs first needed =
      stays (tested_purges s.history (outside (studio_of disk s) sound) (studio_of disk s) call blocks len why first)
      (plain_refusal (outside (studio_of disk s) sound) (studio_of disk s) call blocks len why first)
      (λ held. (blocks, needs held)) needed
      (λ held. inl (record {
        blocks = blocks;
        len = len;
        needs = needs held;
        first = first;
        same = refl;
        quiet = quiet;
      }))

-- for want of memory
pub wants : {D : Type 0} (disk : Ghosts D) (s : Core D) (call : Call) (sound : SoundMove) → IsStudio disk s
    → Fewer disk s.store → RemovesNone call → sound.after ≡ sound.before → (len : ℕ) → MayNeed disk s call sound len
    → Took disk s (with_sound call sound (Err refusal.NoMemory)) s
wants disk s call sound is fewer none quiet len needs =
    stays disk s call sound refusal.NoMemory is fewer (frees_refused disk s call refusal.NoMemory s none) quiet len
    (λ off. absurd (true≢false (sym off))) (other_purges s.history call refusal.NoMemory tt) tt needs tt
    (λ held. inr (inr (record { same = refl; quiet = quiet })))
