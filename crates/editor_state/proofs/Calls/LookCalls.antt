-- A call that only reads the disk leaves the studio as it was, but for the count of failed reads and its pages.
use Rattle.editor_state.proofs.Common.{rules, ◌≡◌, ◌↔◌, inl, inr, refl, sym, ap, ◌∙◌, subst, ◌+◌, IsTrue, IsSome, Some}
use Rattle.editor_state.proofs.Common.{None, Ok, Err, ℕ, arith, CarriesOut, Answers, outside, refusal_of, Reply, Call}
use Rattle.editor_state.proofs.Common.{Refusal, Files, Kept, Ghosts, changed_kept, AllWhole, BlockFault, reason_of}
use Rattle.editor_state.proofs.Common.{EachNow, EachSince, Keeps, IsDamagedIn, Entries, SameBlocks, IsDurable, IsHeld}
use Rattle.editor_state.proofs.Common.{IsStudio, shown, studio_of, named_blocks, Took, quietly, silent, Core, form_at}
use Rattle.editor_state.proofs.Common.{IsSoOf, MayRemove, Needed}
use Rattle.pcm_base.specs.Run.{Leaves}
use Rattle.disk_model.specs.{MomentLaws.upto_refl}
use Rattle.disk_model.proofs.Frames.{tells_on}
use Rattle.block_store.specs.{Reads.CountedBy}
use Rattle.project_journal.specs.{Choice.other_file}
use Rattle.project_journal.proofs.Kept.{SameJournals, is_at_still}
use Rattle.editor_state.proofs.Refusals.RefusalEffects.{IsOwn, left_read, own_plain, plain_so}
use Rattle.editor_state.proofs.Calls.FileRemovals.{PacksNone, RemovesNone, frees_none, frees_refused, ids_same}
use Rattle.editor_state.proofs.Calls.FileRemovals.{no_record, none_given}
use Rattle.editor_state.proofs.Blocks.CachePages.{ReadsNamed, pages_by_reads}
use Rattle.editor_state.proofs.{Images.ImageProjects.keeps_now, Calls.OtherFiles.others_none}
use Rattle.editor_state.proofs.{Refusals.PurgeNumbers.quiet_purges, Calls.QuietCalls.IsQuiet}
use Rattle.editor_state.proofs.{Refusals.EarlyRefusals.stopped_not, Refusals.CounterNumbers.own_needed}
use Rattle.editor_state.proofs.{SameStudios.durable_so, SameStudios.studio_with}
use Rattle.pcm_base.specs.declared.refusal.Refusal.TheVariants as refusal
use Rattle.pcm_base.specs.Studio as model
use Rattle.block_store.specs.declared.fault.BlockFault.TheVariants as fault

-- the same files have the same journals
pub same_journals : (file : ℕ) (d c : Files) → c ≡ d → SameJournals file d c
same_journals file d c same = (ap (λ (f : Files). f file) same, ap (λ (f : Files). f (other_file file)) same)

module _ {D : Type 0} (disk : Ghosts D) (s : Core D) (is : IsStudio disk s) (store : D)
    (kept : Kept disk s.store store) (cache : Entries) (keeps : ReadsNamed disk s cache) where
  abbrev pub looked : Core D
  looked = record s { store = store; cache = cache }

  looked_durable : IsDurable disk s → IsDurable disk looked
  looked_durable d =
      durable_so disk s store cache s.stopped s.next_block s.clipboard s.pins s.next_pin s.uses s.counts d
      (is_at_still {form = form_at s} (λ x y same. same_journals s.file x y same)
      (same_journals s.file (disk.reads s.store) (disk.reads store) kept.same_reads) kept.same_images d.there)
      (omega arith)
      (λ c now.
      let images = kept.same_images in
      let from = images.from c
      (images.fewer (disk.clock s.store) (disk.clock store) c images.later (upto_refl (disk.clock store)) now) in
      subst (λ (f : Files). SameBlocks (named_blocks s) f c) (sym kept.same_reads)
      (subst (SameBlocks (named_blocks s) (disk.reads s.store)) (sym from.2) (d.blocks from.0 from.1)))
      (λ id least most. subst (λ (f : Files). IsSome (s.counts id) ↔ IsSome (f id)) (sym kept.same_reads)
      (d.files id least most))

  pub looked_studio : IsStudio disk looked
  looked_studio = search (rules, studio_with, pages_by_reads)

  pub looked_held : IsHeld disk s → IsHeld disk looked
  looked_held held = record {
    tells = tells_on kept held.tells;
    whole = subst (λ (f : Files). AllWhole f (named_blocks s)) (sym kept.same_reads) held.whole;
    durable = λ going. looked_durable (held.durable going);
  }

  looked_state : studio_of disk looked ≡ record (studio_of disk s) { read_faults = disk.read_fault_count store }
  looked_state = search rules

  pub keeps_still : s.stopped ≡ None → IsHeld disk s
      → EachSince disk s.store store (λ c. Keeps c (shown (studio_of disk s)))
  keeps_still going held c since = search (rules, keeps_now)

  keeps_after : s.stopped ≡ None → IsHeld disk s → EachNow disk store (λ c. Keeps c (shown (studio_of disk looked)))
  keeps_after going held = keeps_now disk looked is.journal.among going (looked_held held)

  module _ (c : Call) (quiet : IsQuiet c) (none : RemovesNone c) (going : s.stopped ≡ None) where
    abbrev t : model.Studio
    t = studio_of disk s

    -- it read what it wanted
    pub looked_ok : PacksNone c → (r : Reply) → disk.read_fault_count store ≡ disk.read_fault_count s.store
        → (IsHeld disk s → CarriesOut t c silent r t) → Took disk s (quietly c (Ok r)) looked
    looked_ok plain r faults step = record {
      studio = looked_studio;
      held = looked_held;
      step = λ held. subst (CarriesOut t c silent r) (sym (looked_state ∙ (λ i. record t { read_faults = faults i })))
          (step held);
      any_moment = λ on held f since. inl (keeps_still on held f since);
      refused = λ on held still. tt;
      now = λ still held. keeps_after still held;
      number = omega (arith, quiet.no_commit);
      rests = λ some. absurd (stopped_not s.stopped some going);
      len = 0;
      needs = λ held. (0, quiet.needs t);
      records = no_record s (Ok r) looked;
      given = none_given (Ok r) s looked refl;
      needed = tt;
      changed = changed_kept (others_none s.next_block s.next_block (MayRemove c s.counts)) kept;
      frees = frees_none disk s c (Ok r) looked none plain;
      ids = ids_same s looked refl refl;
      purges = quiet_purges s.history c (Ok r) quiet.no_commit;
      untouched = tt;
      stops = inl (refl, kept.same_faults);
      left = tt;
    }

    looked_refused : (why : Refusal) → IsSoOf disk s looked why → Needed disk s c silent why
        → (IsHeld disk s → Answers t c silent (Err why) (studio_of disk looked))
        → Took disk s (quietly c (Err why)) looked
    looked_refused why so needed step = record {
      studio = looked_studio;
      held = looked_held;
      step = step;
      any_moment = λ on held f since. inl (keeps_still on held f since);
      refused = λ on held still f since. keeps_still on held f since;
      now = λ still held. keeps_after still held;
      number = refl;
      rests = λ some. absurd (stopped_not s.stopped some going);
      len = 0;
      needs = λ held. (0, quiet.needs t);
      records = no_record s (Err why) looked;
      given = tt;
      needed = needed;
      changed = changed_kept (others_none s.next_block s.next_block (MayRemove c s.counts)) kept;
      frees = frees_refused disk s c why looked none;
      ids = ids_same s looked refl refl;
      purges = quiet_purges s.history c (Err why) quiet.no_commit;
      untouched = λ device. kept;
      stops = inl (refl, kept.same_faults);
      left = left_read disk s store cache why so;
    }

    -- the disk failed, or a file was not as it has to be, and the studio goes on
    pub looked_failed : (Leaves t c silent) → (why : BlockFault)
        → CountedBy why (disk.read_fault_count s.store) (disk.read_fault_count store)
        → (IsTrue (disk.tells s.store) → IsDamagedIn (disk.reads s.store) (named_blocks s) (reason_of why))
        → Took disk s (quietly c (Err (reason_of why))) looked
    looked_failed leaves fault.DiskFault counted named =
        let same : s.next_block ≡ s.next_block + 0 = omega arith in
        looked_refused refusal.DiskFault (inl (record { rose = counted.0; later = counted.1 })) tt
        (λ held. inr (inr (record {
          breaks = record {
            going = going;
            blocks = 0;
            len = 0;
            needs = quiet.needs t;
            room = omega (arith, is.counters.block_most);
            is = looked_state ∙ (λ i. record t {
              next_block = same i;
              read_faults = disk.read_fault_count store;
              change_faults = sym kept.same_faults i;
            });
            leaves = leaves;
          };
          cause = inl (record { goes_on = going; rose = counted.0; later = counted.1; changes = kept.same_faults });
        })))
    looked_failed leaves (fault.Damaged file found) counted named =
        let same : s.next_block ≡ s.next_block + 0 = omega arith in
        looked_refused (refusal.Damaged file found.at found.want found.have) named tt (λ held. inr (inr (record {
          breaks = record {
            going = going;
            blocks = 0;
            len = 0;
            needs = quiet.needs t;
            room = omega (arith, is.counters.block_most);
            is = looked_state ∙ (λ i. record t {
              next_block = same i;
              read_faults = disk.read_fault_count store;
              change_faults = sym kept.same_faults i;
            });
            leaves = leaves;
          };
          stopped = going;
          reads = counted;
          changes = kept.same_faults;
        })))

    -- one of its tests refused it, though the disk was asked
    pub looked_own : (why : Refusal) → IsOwn why → disk.read_fault_count store ≡ disk.read_fault_count s.store
        → (IsHeld disk s → refusal_of (outside t silent) t c 0 0 ≡ Some why) → Took disk s (quietly c (Err why)) looked
    looked_own why own faults first = looked_refused why (plain_so disk s looked why (own_plain why own))
        (own_needed disk s c silent why own) (λ held. inl (record {
          blocks = 0;
          len = 0;
          needs = quiet.needs t;
          first = first held;
          same = looked_state ∙ (λ i. record t { read_faults = faults i });
          quiet = refl;
        }))

    -- there was no memory, before or after a read
    pub looked_wanting : disk.read_fault_count store ≡ disk.read_fault_count s.store
        → Took disk s (quietly c (Err refusal.NoMemory)) looked
    looked_wanting faults = looked_refused refusal.NoMemory tt tt
        (λ held. inr (inr (record { same = looked_state ∙ (λ i. record t { read_faults = faults i }); quiet = refl })))
