-- A commit whose records are not added: the journal is full, the record too long, memory is short, or the disk fails.
use Rattle.editor_commits.proofs.Common.{rules, ◌≡◌, inl, inr, ⊎_elim, refl, sym, ap, subst, ℕ, ◌+◌, ◌-◌, ◌^◌, ◌≤◌, ◌<◌}
use Rattle.editor_commits.proofs.Common.{IsTrue, List, Option, None, Err, false, ◌∙◌, arith, Done, BlockRef, Call}
use Rattle.editor_commits.proofs.Common.{SoundMove, Refusal, layouts_of, record_test, History, ◌otherwise◌, call_tests}
use Rattle.editor_commits.proofs.Common.{outside, State, Ghosts, Fewer, changed_wider, IsWhole, Item, Track, Saved}
use Rattle.editor_commits.proofs.Common.{AddsBody, ExceedsBy, Undrawn, stopped_by, IsLength, Writing, all_len}
use Rattle.editor_commits.proofs.Common.{whole_len, IsHeld, IsStudio, named_blocks, studio_by, studio_of, Core}
use Rattle.editor_commits.proofs.Common.{WouldMake, packed_by, Took, with_sound, NoneGoes, others_record, TookWhere}
use Rattle.editor_commits.proofs.Common.{took_so, commit_frees, commit_leaves_journal, commit_removes_none, HasMade}
use Rattle.editor_commits.proofs.Common.{record_within, refuses, stopped_not, wants, all_left, sources_elsewhere}
use Rattle.std.proofs.lemmas.Bool.{true≢false}
use Rattle.editor_state.specs.Adding.{Outgrows}
use Rattle.editor_state.specs.{Exchanges.may_begin, Spent.saved_of}
use Rattle.editor_state.proofs.Refusals.VaultRefusals.{inside_begins_none, outgrowing_asks}
use Rattle.editor_state.proofs.Calls.FileRemovals.{ids_same, begun_untouched, broken_begins}
use Rattle.editor_state.proofs.Refusals.CommitTests.{exceeded, outgrows}
use Rattle.editor_state.proofs.Refusals.EarlyRefusals.{some_none}
use Rattle.editor_state.proofs.{Refusals.RefusalEffects.left_stopped, Refusals.CallTests.outgrowing_plain}
use Rattle.editor_state.proofs.{Refusals.PurgeNumbers.other_purges, Refusals.CounterNumbers.outgrowing_needed}
use Rattle.editor_commits.proofs.CommitImages.{IsCommit, IsTested, flight, whole_still}
use Rattle.editor_commits.proofs.CommitStudios.{stopped_studio}
use Rattle.pcm_base.specs.declared.refusal.Refusal.TheVariants as refusal

module _ {D : Type 0} {Has : Type 0} {disk : Ghosts D} {s : Core D} {made : List BlockRef} {c : Call}
    {sound : SoundMove} {tracks : ℕ} {w : Writing} {h : History (List Track)} {clip : Option (List (List Item))}
    {track_then : ℕ} (t : IsTested Has disk s made c sound tracks w h clip track_then) where
  abbrev len : ℕ
  len = all_len s w

  -- ---- the disk failed
  module _ {Q : Type 0} (mid : Core D) (adds : AddsBody {R = Q} disk s w (Err refusal.DiskFault) mid) where
    abbrev pub after : Core D
    after = stopped_by disk s mid.store

    failed_held : Has → IsHeld disk after
    failed_held has = record {
      tells = subst IsTrue (sym adds.changed.tells) (t.holds has).tells;
      whole = all_left (IsWhole (disk.reads mid.store)) (named_blocks s) made
          (whole_still t (Err refusal.DiskFault) mid adds has);
      durable = λ still. absurd (some_none _ still);
    }

    -- what it stands for, with the same samples
    pub failed_state : Has → studio_of disk after ≡ record (studio_of disk s) {
      stopped = (stopped_by disk s mid.store).stopped;
      next_block = s.next_block + 0;
      read_faults = disk.read_fault_count mid.store;
      change_faults = disk.change_fault_count mid.store;
    }
    failed_state has =
        let step = adds.changed.reads (t.holds has).tells in
        let src = sources_elsewhere s.file (disk.reads s.store) (disk.reads mid.store) t.is.journal.among step in
        let none : s.next_block ≡ s.next_block + 0 = omega arith in
        λ i. record (studio_by (src i) disk after) { next_block = none i }

    pub failed : TookWhere Has disk s c sound (Err refusal.DiskFault) after
    failed = record {
      studio = stopped_studio disk s t.is mid.store;
      held = failed_held;
      step = λ has. inr (inr (record {
        breaks = record {
          going = t.going;
          blocks = 0;
          len = len;
          needs = t.move.needs has len (inr refl);
          room = omega (arith, t.is.counters.block_most);
          is = failed_state has;
          leaves = t.move.call.leaves (studio_of disk s);
        };
        cause = inr (
          t.move.call.changes,
          record {
            stopped = refl;
            rose = adds.fields.2.rose;
            later = adds.fields.2.later;
            reads = adds.read_faults;
          },
        );
      }));
      any_moment = λ _ has. flight t (Err refusal.DiskFault) mid adds has adds.fields.1 adds.fields.3;
      refused = λ _ has still. absurd (some_none _ still);
      now = λ still has. absurd (some_none _ still);
      number = refl;
      rests = λ some. absurd (stopped_not s.stopped some t.going);
      len = len;
      needs = λ has. (0, t.move.needs has len (inr refl));
      records = λ off. adds.fields.3;
      purges = other_purges s.history c refusal.DiskFault tt;
      changed =
          changed_wider (others_record s.file s.next_block s.next_block NoneGoes t.is.journal.among)
          (record_within (with_sound c sound (Err refusal.DiskFault)) (disk.reads s.store s.file) s.block_size
          (s.next_block - s.next_block) len (packed_by s c) t.move.call.many) adds.changed;
    }

-- ---- of a studio that the disk holds
module _ {D : Type 0} (disk : Ghosts D) (s : Core D) (made : List BlockRef) (c : Call) (sound : SoundMove) (tracks : ℕ)
    (w : Writing) (h : History (List Track)) (clip : Option (List (List Item))) (track_then : ℕ) (is : IsStudio disk s)
    (has_made : HasMade (IsHeld disk s) disk s made)
    (move : IsCommit (IsHeld disk s) disk s made c sound tracks w h clip track_then)
    (going : s.stopped ≡ None) (own : call_tests (outside (studio_of disk s) sound) (studio_of disk s).state c ≡ None)
    (ids : s.next_track + tracks ≤ 2 ^ 62) (number : s.commit_number + w.more < 2 ^ 62) where
  abbrev size : ℕ
  size = all_len s w

  -- ---- the journal is full, numbers of layouts are not left, or the record is too long
  -- what it would have made
  abbrev would : WouldMake disk s c sound
  would = record {
    writes = w;
    commits = move.call.many;
    blocks = 0;
    so = inr (
      refl,
      record {
        history = h;
        next_track = track_then;
        says = move.says;
        leads = ap (λ (k : Saved). k.history) (move.leads s.block_size (saved_of s) (record {
          block_size = refl;
          history = refl;
          next_block = omega arith;
          next_track = refl;
          commit = refl;
        }));
        reply = Done;
        answers = move.call.done s.rate (studio_of disk s).state;
        means = λ held. ap (λ (z : State). z.history) (move.model held);
      },
    );
  }

  -- the numbers of layouts that it needs
  abbrev pub draws : ℕ
  draws = layouts_of (outside (studio_of disk s) sound) (studio_of disk s).state c

  unfit_by : (n : ℕ) → IsLength s w n → (why : Refusal) → Fewer disk s.store
      → Outgrows s.journal_end s.next_layout draws n why → Took disk s (with_sound c sound (Err why)) s
  unfit_by n one why fewer over =
      let none : may_begin why ≡ false =
      inside_begins_none why (outgrowing_asks s.journal_end s.next_layout draws n why over)
      (outgrowing_plain s.journal_end s.next_layout draws n why over) in
      refuses disk s c sound why is fewer (commit_frees disk s c (Err why) s move.call.many) move.call.quiet n
      (λ off. absurd (true≢false (sym off ∙ none))) 0
      (λ held. move.needs held n one)
      (exceeded (studio_of disk s) c sound tracks move.call 0 n is.counters.pin_most
      is.journal.generation_most going own
      (omega (arith, is.counters.block_most)) ids (omega (arith, number)) why over)
      (outgrowing_needed disk s c sound would n one draws refl why over)

  -- numbers of layouts are not left
  pub undrawn : (why : Refusal) → Fewer disk s.store → Undrawn s.journal_end s.next_layout draws (whole_len s w) why
      → Took disk s (with_sound c sound (Err why)) s
  undrawn why fewer lacks =
      unfit_by (whole_len s w) (inl refl) why fewer (λ i. (lacks i) otherwise (record_test (whole_len s w)))

  module _ (layouts : s.next_layout + layouts_of (outside (studio_of disk s) sound) (studio_of disk s).state c ≤ 2 ^ 62)
    where
      tested : IsTested (IsHeld disk s) disk s made c sound tracks w h clip track_then
      tested = search rules

      unfit : (why : Refusal) → Fewer disk s.store → ExceedsBy s.journal_end (whole_len s w) size why
          → Took disk s (with_sound c sound (Err why)) s
      unfit why fewer over =
          ⊎_elim
          (λ whole. unfit_by (whole_len s w) (inl refl) why fewer
          (outgrows s.journal_end s.next_layout draws (whole_len s w) why layouts whole))
          (λ last. unfit_by size (inr refl) why fewer
          (outgrows s.journal_end s.next_layout draws size why layouts last)) over

      -- ---- what a record that was not added leaves
      pub fails : {Q : Type 0} (why : Refusal) (mid : Core D) → Fewer disk s.store
          → AddsBody {R = Q} disk s w (Err why) mid → Took disk s (with_sound c sound (Err why)) mid
      fails (refusal.SpaceSpent have need) mid fewer adds =
          let why = refusal.SpaceSpent have need in
          subst (λ (z : Core D). Took disk s (with_sound c sound (Err why)) z) (sym adds.fields.0)
          (unfit why fewer adds.fields.1)
      fails refusal.NoMemory mid fewer adds =
          subst (λ (z : Core D). Took disk s (with_sound c sound (Err refusal.NoMemory)) z) (sym adds.fields)
          (wants disk s c sound is fewer (commit_removes_none c move.call.many) move.call.quiet size
          (λ held. (0, move.needs held size (inr refl))))
      fails (refusal.RecordLimit n) mid fewer adds =
          let why = refusal.RecordLimit n in
          subst (λ (z : Core D). Took disk s (with_sound c sound (Err why)) z) (sym adds.fields.0)
          (unfit why fewer adds.fields.1)
      fails refusal.DiskFault mid fewer adds =
          subst (λ (z : Core D). Took disk s (with_sound c sound (Err refusal.DiskFault)) z) (sym adds.fields.0)
          (took_so disk s c sound (Err refusal.DiskFault) (after tested mid adds) (failed tested mid adds)
          (commit_removes_none c move.call.many) (commit_leaves_journal c move.call.many)
          (ids_same s (after tested mid adds) refl refl) tt tt
          (begun_untouched disk s.store mid.store c refusal.DiskFault (broken_begins c refusal.DiskFault refl))
          (inr (refl, adds.fields.2, refl)) (left_stopped disk s mid.store adds.fields.2))
      fails why mid fewer adds = absurd adds.fields
