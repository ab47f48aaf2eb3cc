-- A making of blocks that failed.
use Rattle.editor_blocks.proofs.Common.{rules, ℤ, ◌≡◌, ◌⊎◌, ◌<◌, inl, inr, ⊎_elim, refl, sym, ap, ◌∙◌, ℕ, ◌+◌}
use Rattle.editor_blocks.proofs.Common.{◌^◌, ◌≤◌, IsTrue, None, List, length, Err, true, arith, Answers, outside, Call}
use Rattle.editor_blocks.proofs.Common.{SoundMove, Refusal, Truncated, Needs, StaysStep, Changed, together, Ghosts}
use Rattle.editor_blocks.proofs.Common.{size_of, NewBlock, AllNewFrom, AreNew, PiecesThere, SameOutside, batch_of}
use Rattle.editor_blocks.proofs.Common.{HasMissed, Making, Stuck, Unput, Unread, made_room, one_call, IsHeld, IsStudio}
use Rattle.editor_blocks.proofs.Common.{named_blocks, studio_of, stopped_by, Core, IsSoOf, Took, with_sound, Needed}
use Rattle.editor_blocks.proofs.Common.{RemovesNone, stopped_not, same_studio}
use Rattle.pcm_base.specs.Run.{BreaksOff, Leaves, may_change}
use Rattle.pcm_base.specs.{declared.limits.TheConstants.LONGEST_BODY}
use Rattle.editor_state.specs.Makes.{OrCut}
use Rattle.editor_state.specs.{Edits.Serves, Exchanges.may_have_begun, Exchanges.reads_sound}
use Rattle.editor_state.proofs.Refusals.PurgeNumbers.{begun_purges, other_purges}
use Rattle.editor_state.proofs.Calls.FileRemovals.{broken_begins, cut_begins, frees_refused, names_sound}
use Rattle.editor_state.proofs.Calls.FileRemovals.{begun_untouched}
use Rattle.editor_state.proofs.Refusals.EarlyRefusals.{some_none}
use Rattle.editor_state.proofs.{Images.ImageProjects.keeps_now}
use Rattle.editor_blocks.proofs.BlocksWritten.{making_unread}
use Rattle.editor_blocks.proofs.BlocksLeft.{damaged_so, missed_so, some_changed, some_ids, some_left, some_stop}
use Rattle.editor_blocks.proofs.BlocksLeft.{unput_changed, unput_failed, unput_files, unput_here, unput_ids, unput_is}
use Rattle.editor_blocks.proofs.BlocksLeft.{unput_left}
use Rattle.editor_blocks.proofs.StudioBlocks.{below_same, keeps_outside, made_held, made_state, made_studio, with_held}
use Rattle.editor_blocks.proofs.StudioBlocks.{with_store}
use Rattle.pcm_base.specs.declared.refusal.Refusal.TheVariants as refusal
use Rattle.pcm_base.specs.Studio as model

module _ {D : Type 0} (disk : Ghosts D) (s : Core D) (is : IsStudio disk s) (given : ℕ → ℤ) (makes : List NewBlock)
    (going : s.stopped ≡ None)
    (fresh : AreNew s.block_size s.next_block makes) (most : s.next_block + length makes ≤ 2 ^ 62)
    (there : IsHeld disk s → PiecesThere (disk.reads s.store) makes) (c : Call) (sound : SoundMove)
    (none : RemovesNone c) where
  abbrev n : ℕ
  n = length makes

  abbrev t : model.Studio
  t = studio_of disk s

  module _ (len : ℕ) (short : len ≤ LONGEST_BODY) (changes : IsTrue (may_change c)) (leaves : Leaves t c sound)
      (need : IsHeld disk s → (k : ℕ) → k ≤ n → Needs (outside t sound) t c k len)
      (count : ℕ) (origin : AllNewFrom (named_blocks s) count makes) where
    going_on : (why : Refusal) (k : ℕ) (new : Core D) → Making disk s (batch_of given makes) k new → k ≤ n
        → may_have_begun c why ≡ true → Needed disk s c sound why → IsSoOf disk s new why
        → (IsHeld disk s → Answers t c sound (Err why) (studio_of disk new))
        → Took disk s (with_sound c sound (Err why)) new
    going_on why k new making few off needed so step =
        let studio = made_studio disk s is given makes k new making going few fresh most there in
        let holds = made_held disk s is given makes k new making going few fresh most there in
        let images = making.changed.images in record {
          studio = studio;
          held = holds;
          step = step;
          any_moment = λ _ held x since. inl (keeps_outside disk s is k new.store going held images x since);
          refused = λ _ held still. keeps_outside disk s is k new.store going held images;
          now = λ still held. keeps_now disk new studio.journal.among still (holds held);
          number = ap (λ (z : Core D). z.commit_number) making.is;
          rests = λ some. absurd (stopped_not s.stopped some going);
          len = len;
          needs = λ held. (k, need held k few);
          records = λ device. short;
          given = tt;
          needed = needed;
          changed = some_changed disk s given makes most c sound why k len new making few;
          frees = frees_refused disk s c why new none;
          ids = some_ids disk s given makes most c sound k new making;
          purges = begun_purges s.history c why off;
          untouched = begun_untouched disk s.store new.store c why off;
          stops = inl (some_stop disk s given makes most c sound k new making, making.change_faults);
          left = some_left disk s given makes most c sound k new making why so;
        }

    -- a read failed, or found a file that is not as it has to be
    module _ (k : ℕ) (mid new : Core D) (was : Making disk s (batch_of given makes) k mid) (few : k ≤ n)
        (reads : disk.read_fault_count mid.store ≡ disk.read_fault_count s.store) (un : Unread disk mid new) where
      making : Making disk s (batch_of given makes) k new
      making = making_unread disk s given makes k mid new was un

      still_going : new.stopped ≡ None
      still_going = ap (λ (z : Core D). z.stopped) making.is ∙ going

      new_state : IsHeld disk s → studio_of disk new ≡ record t {
        stopped = new.stopped;
        next_block = s.next_block + k;
        read_faults = disk.read_fault_count new.store;
        change_faults = disk.change_fault_count new.store;
      }
      new_state held =
          let stopped : new.stopped ≡ s.stopped = ap (λ (z : Core D). z.stopped) making.is in
          made_state disk s is given makes k new making going few fresh most there held
          ∙ (λ i. record t {
            stopped = sym stopped i;
            next_block = s.next_block + k;
            read_faults = disk.read_fault_count new.store;
            change_faults = sym making.change_faults i;
          })

      broken : IsHeld disk s → BreaksOff t c sound (studio_of disk new)
      broken held = record {
        going = going;
        blocks = k;
        len = len;
        needs = need held k few;
        room = omega (arith, most, few);
        is = new_state held;
        leaves = leaves;
      }

      unread : HasMissed disk mid.store new.store → Took disk s (with_sound c sound (Err refusal.DiskFault)) new
      unread missed = going_on refusal.DiskFault k new making few (broken_begins c refusal.DiskFault refl) tt
          (inl (missed_so disk s given makes most c sound mid.store new.store reads missed)) (λ held. inr (inr (record {
            breaks = broken held;
            cause = inl (record {
              goes_on = still_going;
              rose = omega (arith, missed.rose, reads);
              later = omega (arith, missed.later, reads);
              changes = making.change_faults;
            });
          })))

      damaged : (file at want have : ℕ) → disk.read_fault_count new.store ≡ disk.read_fault_count mid.store
          → IsSoOf disk s new (refusal.Damaged file at want have)
          → Took disk s (with_sound c sound (Err (refusal.Damaged file at want have))) new
      damaged file at want have same so =
          going_on (refusal.Damaged file at want have) k new making few
          (broken_begins c (refusal.Damaged file at want have) refl) tt so (λ held. inr (inr (record {
            breaks = broken held;
            stopped = still_going;
            reads = same ∙ reads;
            changes = making.change_faults;
          })))

      -- the vault failed as samples were brought
      vault : reads_sound c ≡ true → disk.read_fault_count new.store ≡ disk.read_fault_count mid.store
          → Took disk s (with_sound c sound (Err refusal.VaultFault)) new
      vault sounds same =
          let begun = cut_begins c refusal.VaultFault sounds refl in
          going_on refusal.VaultFault k new making few begun tt tt (λ held. inr (inr (
            names_sound c sounds,
            record {
              breaks = broken held;
              stopped = still_going;
              reads = same ∙ reads;
              changes = making.change_faults;
            },
          )))

    -- the disk failed as a block was written or synced
    module _ (k : ℕ) (mid new : Core D) (was : Making disk s (batch_of given makes) k mid) (few : k ≤ n)
        (left : (k < n) ⊎ Changed disk StaysStep one_call mid.store new.store)
        (reads : disk.read_fault_count mid.store ≡ disk.read_fault_count s.store) (un : Unput disk mid new) where
      abbrev store : D
      store = new.store

      abbrev here : Core D
      here = unput_here disk s given makes most c sound k mid new was few left un

      changed : Changed disk (SameOutside s.next_block (k + 1))
          (together (made_room (size_of s.block_size) k) (made_room (size_of mid.block_size) 1)) s.store store
      changed = unput_files disk s given makes most c sound k mid new was few left un

      here_studio : IsStudio disk here
      here_studio =
          with_store disk s is store k mid.counts (stopped_by disk s store).stopped
          (omega (arith, most, few)) was.ledger

      here_held : IsHeld disk s → IsHeld disk here
      here_held held =
          with_held disk s is store k mid.counts (stopped_by disk s store).stopped changed.tells (k + 1)
          (changed.reads held.tells) (λ none. absurd (some_none _ none)) held

      here_state : IsHeld disk s → studio_of disk here ≡ record t {
        stopped = (stopped_by disk s store).stopped;
        next_block = s.next_block + k;
        read_faults = disk.read_fault_count store;
        change_faults = disk.change_fault_count store;
      }
      here_state held =
          let old = disk.reads s.store in
          let now = disk.reads store in
          let same = same_studio old now disk s
          (below_same s.next_block (k + 1) (named_blocks s) old now is.ids (changed.reads held.tells)) in
          λ i. record (same i) {
            stopped = (stopped_by disk s store).stopped;
            next_block = s.next_block + k;
            read_faults = disk.read_fault_count store;
            change_faults = disk.change_fault_count store;
          }

      here_took : Took disk s (with_sound c sound (Err refusal.DiskFault)) here
      here_took = record {
        studio = here_studio;
        held = here_held;
        step = λ held. inr (inr (record {
          breaks = record {
            going = going;
            blocks = k;
            len = len;
            needs = need held k few;
            room = omega (arith, most, few);
            is = here_state held;
            leaves = leaves;
          };
          cause = inr (
            changes,
            record {
              stopped = refl;
              rose = omega (arith, un.failed.rose, was.change_faults);
              later = omega (arith, un.failed.later, was.change_faults);
              reads = un.read_faults ∙ reads;
            },
          );
        }));
        any_moment = λ _ held x since. inl (keeps_outside disk s is (k + 1) store going held changed.images x since);
        refused = λ _ held none. absurd (some_none _ none);
        now = λ none held. absurd (some_none _ none);
        number = refl;
        rests = λ some. absurd (stopped_not s.stopped some going);
        len = len;
        needs = λ held. (k, need held k few);
        records = λ device. short;
        given = tt;
        needed = tt;
        changed = unput_changed disk s given makes most c sound k mid new was few left un len;
        frees = frees_refused disk s c refusal.DiskFault here none;
        ids = unput_ids disk s given makes most c sound k mid new was few left un;
        purges = other_purges s.history c refusal.DiskFault tt;
        untouched = begun_untouched disk s.store store c refusal.DiskFault (broken_begins c refusal.DiskFault refl);
        stops = inr (refl, unput_failed disk s given makes most c sound k mid new was few left un, refl);
        left = unput_left disk s given makes most c sound k mid new was few left un;
      }

      unput : Took disk s (with_sound c sound (Err refusal.DiskFault)) new
      unput = search (rules, unput_is, here_took)

    pub not_made : (why : Refusal) (new : Core D) → Stuck disk s (batch_of given makes) why new → Serves c why
        → OrCut why (Took disk s (with_sound c sound (Err why)) new)
    not_made refusal.DiskFault new stuck serves = ⊎_elim
        (λ un. unread stuck.made stuck.mid new stuck.before stuck.few stuck.read_faults un.0 un.1)
        (λ un. unput stuck.made stuck.mid new stuck.before stuck.few stuck.left stuck.read_faults un)
        stuck.by
    not_made (refusal.Damaged file at want have) new stuck serves = search (rules, damaged, damaged_so)
    not_made refusal.VaultFault new stuck serves = search (rules, vault)
    not_made (refusal.BadWav (Truncated want have)) new stuck serves = tt
    not_made why new stuck serves = absurd stuck.by
